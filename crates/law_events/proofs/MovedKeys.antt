-- The keys that new routes, or new RP ranges, touch: they take all that is moved of which there are facts.
use Rattle.std.{proofs.{Common.{◌≡◌, ◌==◌, ◌&&◌, ◌||◌, ℕ, Bool, true, false, not, List, filter, is_some, refl, sym, ap, subst, ◌∙◌, eq-eqb, eqb-true, arith}, lemmas.Bool.{false_from_ne_true, or_left}}, specs.{Cmp.Derive.both_true, List.list_all}}
use Rattle.pim_types.{specs.{declared.{config.{Route.Route, RpTable.RpTable}, fact.Key.Key}, Keys.{group_in, source_in, source_key, star_key}}}
use Rattle.pim_model.{specs.{declared.accepted.Accepted.Accepted, Rows.{same_both, same_path}, State.State, Step.{change, rps_replaced}, Tables.same_option, Unicast.{route, rp_of, rp_route}, Upstream.{fact_keys, groups_of, sources_of}}}
use Rattle.law_settled.{proofs.{ListLaws.{any_more, each_more, list_of_each}, TableLaws.{any_in_filter, any_of_map}}}
use Rattle.law_events.{specs.{Locality.touching, Scopes.reads, Moved.{MovesAlone, is_touched_where_rerouted, keys_by_routes, keys_by_rps, moved_of_group, rerouted_sources}, Named.{has_same_routes, has_same_rp}}, proofs.{Asserts.reads_itself, TouchedUpstream.reads_star, FactsThere.{IsThere, each_is_there, group_there, in_each, some_source, source_there, unless_star}, Rerouted.{routes_reroute, rps_reroute}, NamedSameRows.options, Sights.paths_same}}

-- ---- either way

either_same : (b x : Bool) → (b ≡ false → x ≡ true) → (b || x) ≡ true
either_same b x f = grind arith

by_parts : {A : Type 0} (b d : Bool) → (b && d) ≡ false → (b ≡ false → A) → (b ≡ true → d ≡ false → A) → A
by_parts b d e f h = grind arith

-- ---- all is taken, where the groups and the sources are

module _ (keys : List Key) (o c : State) where
  -- there is a fact under the key
  abbrev pub HasFact : Key → Type 0
  HasFact k = IsThere (fact_keys o) k

  module _
      (stars : (k : Key) → HasFact k → has_same_rp (group_in k) o c ≡ false → (q : Key) → group_in q ≡ group_in k
      → touching keys q ≡ true)
      (sources : (k : Key) → HasFact k → is_some k.source ≡ true → has_same_rp (group_in k) o c ≡ true
      → same_both same_path (route o (source_in k)) (route c (source_in k)) ≡ false
      → touching keys (source_key 0 (group_in k) (source_in k)) ≡ true) where
    source_taken : (k : Key) → HasFact k → is_some k.source ≡ true
        → (has_same_routes (group_in k) (source_in k) o c || touching keys (source_key 0 (group_in k) (source_in k)))
        ≡ true
    unfolding has_same_routes
    source_taken k there some = grind (arith, either_same, by_parts)

    one_taken : (k : Key) → HasFact k → is_touched_where_rerouted keys o c k ≡ true
    one_taken k there = grind (arith, either_same, unless_star, source_taken, some_source)

    all_taken : list_all (is_touched_where_rerouted keys o c) (fact_keys o) ≡ true
    all_taken =
        list_of_each (is_touched_where_rerouted keys o c) (fact_keys o)
        (each_more HasFact (λ k. is_touched_where_rerouted keys o c k ≡ true) one_taken (fact_keys o) (each_is_there (fact_keys o)))

-- ---- new routes

module _ (o c : State) where
  -- a group whose RP has another route
  star_by_routes : (k : Key) → HasFact (keys_by_routes o c) o c k → has_same_rp (group_in k) o c ≡ false → (q : Key)
      → group_in q ≡ group_in k → touching (keys_by_routes o c) q ≡ true
  unfolding touching keys_by_routes moved_of_group
  star_by_routes k there moved q same =
      in_each (reads q) (moved_of_group o c) (group_in k) (groups_of (fact_keys o)) (group_there (fact_keys o) k there)
      (rw moved (or_left (reads q (star_key 0 (group_in k))) false
      (reads_star (group_in k) q (eq-eqb (group_in q) (group_in k) same))))

  -- a source with another route, of another group
  source_by_routes : (k : Key) → HasFact (keys_by_routes o c) o c k → is_some k.source ≡ true
      → has_same_rp (group_in k) o c ≡ true
      → same_both same_path (route o (source_in k)) (route c (source_in k)) ≡ false
      → touching (keys_by_routes o c) (source_key 0 (group_in k) (source_in k)) ≡ true
  unfolding touching keys_by_routes moved_of_group rerouted_sources
  source_by_routes k there some calm moved =
      let here : Key = source_key 0 (group_in k) (source_in k) in
      let differs : ℕ → Bool = λ src. not (same_both same_path (route o src) (route c src)) in
      let all : List ℕ = sources_of (group_in k) (fact_keys o) in
      in_each (reads here) (moved_of_group o c) (group_in k) (groups_of (fact_keys o)) (group_there (fact_keys o) k there)
      (rw calm (any_of_map (reads here) (source_key 0 (group_in k)) (filter differs all)
      ∙ any_in_filter differs (λ src. reads here (source_key 0 (group_in k) src)) all
      ∙ any_more (λ m. m == source_in k) (λ m. differs m && reads here (source_key 0 (group_in k) m))
      (λ m e. subst (λ n. (differs n && reads here (source_key 0 (group_in k) n)) ≡ true)
      (sym (eqb-true m (source_in k) e)) (both_true (ap not moved) (reads_itself here)))
      all (source_there (fact_keys o) k there some)))

pub routes_move : (s : State) (w : ℕ) (routes : List Route)
    → (let c : State = (change s w (Accepted.Routes routes)).state in MovesAlone (keys_by_routes s c) s c)
routes_move s w routes = grind (arith, routes_reroute, all_taken, star_by_routes, source_by_routes)

-- ---- new RP ranges

module _ (s : State) (w : ℕ) (ranges : RpTable) where
  abbrev after : State
  after = (change s w (Accepted.Rps ranges)).state

  same_route : (x : ℕ) → route s x ≡ route after x
  unfolding change rps_replaced route
  same_route x = refl

  same_rp : (g : ℕ) → same_option (rp_of s g) (rp_of after g) ≡ true → has_same_rp g s after ≡ true
  unfolding has_same_rp rp_route
  same_rp g e = grind (arith, paths_same, same_route, options)

  star_by_rps : (k : Key) → HasFact (keys_by_rps s after) s after k → has_same_rp (group_in k) s after ≡ false
      → (q : Key) → group_in q ≡ group_in k → touching (keys_by_rps s after) q ≡ true
  unfolding touching keys_by_rps
  star_by_rps k there moved q same =
      let differs : ℕ → Bool = λ g. not (same_option (rp_of s g) (rp_of after g)) in
      let all : List ℕ = groups_of (fact_keys s) in
      any_of_map (reads q) (star_key 0) (filter differs all)
      ∙ any_in_filter differs (λ g. reads q (star_key 0 g)) all
      ∙ any_more (λ m. m == group_in k) (λ m. differs m && reads q (star_key 0 m))
      (λ m e. subst (λ n. (differs n && reads q (star_key 0 n)) ≡ true) (sym (eqb-true m (group_in k) e))
      (both_true (ap not (false_from_ne_true (same_option (rp_of s (group_in k)) (rp_of after (group_in k)))
      (λ f. let no : true ≡ false = sym (same_rp (group_in k) f) ∙ moved in cc)))
      (reads_star (group_in k) q (eq-eqb (group_in q) (group_in k) same))))
      all (group_there (fact_keys s) k there)

  source_by_rps : (k : Key) → HasFact (keys_by_rps s after) s after k → is_some k.source ≡ true
      → has_same_rp (group_in k) s after ≡ true
      → same_both same_path (route s (source_in k)) (route after (source_in k)) ≡ false
      → touching (keys_by_rps s after) (source_key 0 (group_in k) (source_in k)) ≡ true
  source_by_rps k there some calm moved = grind (arith, paths_same, same_route)

  pub rps_move : MovesAlone (keys_by_rps s after) s after
  rps_move = grind (arith, rps_reroute, all_taken, star_by_rps, source_by_rps)
