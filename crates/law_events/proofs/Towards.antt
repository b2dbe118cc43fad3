-- The keys of what looks to a neighbour take all that its coming and going moves.
use Rattle.std.{proofs.{Common.{◌≡◌, ◌==◌, ◌&&◌, ◌||◌, ℕ, Bool, true, false, List, filter, Some, is_some, refl, sym, subst, ◌∙◌, eq-eqb, eqb-true, arith}, lemmas.{Bool.{or_left, or_right}, List.Folds.list_any-append}}, specs.{Cmp.Derive.both_true, List.{list_all, list_any}}}
use Rattle.pim_types.{specs.{declared.fact.{AssertRole.AssertRole, AssertRow.AssertRow, Key.Key}, Keys.{group_in, iface_in, is_star, source_in, source_key, star_key}}}
use Rattle.pim_model.{specs.{Hellos.is_lost_to, Sets.{is_loser, is_winner}, State.State, Tables.keys_in, Unicast.{route, rp_route}, Upstream.{fact_keys, groups_of, sources_of}}}
use Rattle.law_settled.{proofs.{ListLaws.{any_more, each_more, list_of_each}, TableLaws.{any_in_filter, any_of_map}}}
use Rattle.law_events.{specs.{Locality.touching, Scopes.reads, Adjacent.{is_touched_where_hop_differs, keeps_winner, keys_towards, leads_to, led_keys, led_of_group, led_sources, lost_keys}}, proofs.{Asserts.reads_itself, TouchedUpstream.reads_star, SameRows.flags_same, FactsThere.{IsThere, each_is_there, group_there, in_each, some_source, source_there, unless_star}, OneRow.{SetsOne, others, unled}}}

-- ---- either way

if_led : (b x y : Bool) → (b ≡ false → x ≡ true) → (b ≡ true → y ≡ true) → (x || y) ≡ true
if_led b x y f h = grind arith

by_role : (r : AssertRole) → elim r [ AssertRole.Loser ↦ true | AssertRole.Winner ↦ false ] ≡ false
    → elim r [ AssertRole.Winner ↦ true | AssertRole.Loser ↦ false ] ≡ true
by_role r e = grind arith

-- ---- what is led

module _ (s : State) (i a : ℕ) where
  abbrev facts : List Key
  facts = fact_keys s

  star_led : (k : Key) → IsThere facts k → leads_to i a (rp_route s (group_in k)) ≡ true → (q : Key)
      → group_in q ≡ group_in k → touching (led_keys s i a) q ≡ true
  unfolding touching led_keys led_of_group
  star_led k there led q same =
      in_each (reads q) (led_of_group s i a) (group_in k) (groups_of facts) (group_there facts k there)
      (rw led (or_left (reads q (star_key 0 (group_in k))) false
      (reads_star (group_in k) q (eq-eqb (group_in q) (group_in k) same))))

  source_led_alone : (k : Key) → IsThere facts k → is_some k.source ≡ true → leads_to i a (route s (source_in k)) ≡ true
      → leads_to i a (rp_route s (group_in k)) ≡ false
      → touching (led_keys s i a) (source_key 0 (group_in k) (source_in k)) ≡ true
  unfolding touching led_keys led_of_group led_sources
  source_led_alone k there some led unled =
      let here : Key = source_key 0 (group_in k) (source_in k) in
      let leads : ℕ → Bool = λ src. leads_to i a (route s src) in
      let all : List ℕ = sources_of (group_in k) facts in
      in_each (reads here) (led_of_group s i a) (group_in k) (groups_of facts) (group_there facts k there)
      (rw unled (any_of_map (reads here) (source_key 0 (group_in k)) (filter leads all)
      ∙ any_in_filter leads (λ src. reads here (source_key 0 (group_in k) src)) all
      ∙ any_more (λ m. m == source_in k) (λ m. leads m && reads here (source_key 0 (group_in k) m))
      (λ m e. subst (λ n. (leads n && reads here (source_key 0 (group_in k) n)) ≡ true)
      (sym (eqb-true m (source_in k) e)) (both_true led (reads_itself here)))
      all (source_there facts k there some)))

  source_led : (k : Key) → IsThere facts k → is_some k.source ≡ true → leads_to i a (route s (source_in k)) ≡ true
      → touching (led_keys s i a) (source_key 0 (group_in k) (source_in k)) ≡ true
  source_led k there some led = grind (arith, star_led, source_led_alone)

  -- ---- what was lost

  lost_is_touched : (e : Key × AssertRow) → ((p : Key × AssertRow → Bool) → p e ≡ true → list_any p s.asserts ≡ true)
      → is_lost_to i a e ≡ true → touching (lost_keys s i a) e.0 ≡ true
  unfolding touching keys_in
  lost_is_touched e there lost = grind (arith, any_of_map, any_in_filter, reads_itself)

  -- both among all that looks to it
  pub led_among : (q : Key) → touching (led_keys s i a) q ≡ true → touching (keys_towards s i a) q ≡ true
  unfolding touching keys_towards
  led_among q e = grind (arith, list_any-append, or_left)

  pub lost_among : (q : Key) → touching (lost_keys s i a) q ≡ true → touching (keys_towards s i a) q ≡ true
  unfolding touching keys_towards
  lost_among q e = grind (arith, list_any-append, or_right)

-- ---- all is taken

-- any keys that touch these
module _ (s c : State) (k : Key) (sets : SetsOne k s c) (keys : List Key) where
  abbrev i : ℕ
  i = iface_in k

  abbrev a : ℕ
  a = source_in k

  one_taken : ((q : Key) → touching (led_keys s i a) q ≡ true → touching keys q ≡ true) → (q : Key)
      → IsThere (fact_keys s) q → is_touched_where_hop_differs keys s c q ≡ true
  one_taken within q there =
      both_true
      (if_led (leads_to i a (rp_route s (group_in q))) _ _ (unled s c k sets (rp_route s (group_in q)))
      (λ led. within (star_key 0 (group_in q)) (star_led s i a q there led (star_key 0 (group_in q)) refl)))
      (unless_star (is_star q) _ _
      (λ e. if_led (leads_to i a (route s (source_in q))) _ _ (unled s c k sets (route s (source_in q)))
      (λ led. within (source_key 0 (group_in q) (source_in q))
      (source_led s i a q there (some_source q.source e) led))))

  pub all_taken : ((q : Key) → touching (led_keys s i a) q ≡ true → touching keys q ≡ true)
      → list_all (is_touched_where_hop_differs keys s c) (fact_keys s) ≡ true
  all_taken within =
      list_of_each (is_touched_where_hop_differs keys s c) (fact_keys s)
      (each_more (IsThere (fact_keys s)) (λ q. is_touched_where_hop_differs keys s c q ≡ true) (one_taken within) (fact_keys s)
      (each_is_there (fact_keys s)))

  -- a winner that is another neighbour is one as before
  module _ (within : (q : Key) → touching (lost_keys s i a) q ≡ true → touching keys q ≡ true) (e : Key × AssertRow)
      (there : (p : Key × AssertRow → Bool) → p e ≡ true → list_any p s.asserts ≡ true) where
    abbrev winner_at : ℕ
    winner_at = (e.1).winner.address.bits

    abbrev is_its : Bool
    is_its = (iface_in e.0 == i) && (winner_at == a)

    lost_to_it : is_loser (Some e.1) ≡ true → is_its ≡ true → is_lost_to i a e ≡ true
    lost_to_it lost its = grind arith

    of_loser : (b : Bool) → is_its ≡ b → is_loser (Some e.1) ≡ true → keeps_winner keys s c e ≡ true
    of_loser true its lost = grind (arith, or_left, lost_is_touched, lost_to_it)
    of_loser false apart lost =
        or_right (touching keys e.0 || is_winner (Some e.1)) _
        (flags_same _ _ (others s c k sets (iface_in e.0) winner_at apart))

    of_either : (b : Bool) → is_loser (Some e.1) ≡ b → keeps_winner keys s c e ≡ true
    of_either b lost = grind (arith, of_loser, or_left, or_right, by_role)

    keeps_it : keeps_winner keys s c e ≡ true
    keeps_it = of_either (is_loser (Some e.1)) refl

  pub all_winners : ((q : Key) → touching (lost_keys s i a) q ≡ true → touching keys q ≡ true)
      → list_all (keeps_winner keys s c) s.asserts ≡ true
  all_winners within =
      list_of_each (keeps_winner keys s c) s.asserts
      (each_more _ (λ e. keeps_winner keys s c e ≡ true) (keeps_it within) s.asserts (each_is_there s.asserts))
