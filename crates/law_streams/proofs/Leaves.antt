-- A Join that leaves: where a group or a source comes to be wanted it is sent upstream, and what is told is written.
use Rattle.std.{proofs.{Common.{◌≡◌, ◌∙◌, ℕ, suc, zero, ◌<◌, ◌==◌, ◌||◌, Bool, true, false, List, [], ◌∷◌, ◌++◌, filter, length, map, take, Some, option_map, refl, sym, ap, subst, arith, eqb-true, get_or}, lemmas.{Bool.{both_ways, or_right}, List.{Folds.list_any-append, Elements.{Contains-append_left, Contains-append_right}}}}, specs.List.{AllByRecursion, Contains, list_any}}
use Rattle.pim_ip.{specs.{Addr.addr, Ipv4.{all_pim_routers, pim_packet_text}}}
use Rattle.pim_types.{specs.{Keys.{group_in, is_of_group, source_key, star_key}, declared.{fact.Key.Key, outcome.Emission.Emission, path.Hop.Hop, upstream.StarView.StarView}}}
use Rattle.pim_wire.{specs.{JoinPrunes.join_prune_text, declared.join_prune.{Entry.Entry, EntryKind.EntryKind}}}
use Rattle.pim_model.{specs.{declared.accepted.Accepted.Accepted, Clearing.clear, Desires.{join_desired_star, rpf_star}, Firing.{fire_once, settled}, Messages.{Message, entry}, Querier.each_in_turn, State.{Addressing, InterfaceTable, State, address_among, my_address}, Step.{change, done, step, taken}, Sets.is_empty, Unicast.rp_of, Upstream.{fact_keys, group_upstream, groups_of, is_pruned_with_star, join_prune_to, join_star_to, most_pruned, pruned_with_star, sources_of, star_told, star_view, upstream}, Writing.{all_written, emission_of, hello_paid, on_link, pim_on_link, with_owed_hello, write_all, written}}}
use Rattle.law_settled.{proofs.{AbsentGroups.absent_is_undesired, ListLaws.{each_more, each_passes}, Numbers.any_ascending, TableLaws.any_of_map, Unsettled.{Untold, cleared_in_the_end, telling_leaves}}}
use Rattle.law_events.{specs.{Locality.{AgreesBut, touching}, Scopes.{reads, scope}}, proofs.{Asserts.{place_read, stars_read}, QuietStates.{frame_packets, frame_upstream}, SourceMacros.{ReadsSource, inherited_olist_rpt_local, rpf_rpt_local, rpf_source_local, spt_bit_local}, StarMacros.rpf_star_local, Touches.agrees_then, UntoldKeys.{same_by_scope, star_view_local}}}
use Rattle.law_streams.{specs.Joins.{ComesToWantStar, SendsStar, StarJoinLeaves, StarJoinLeavesInTime, is_time, join_packet, join_to}, proofs.Made.step_taken}

-- ---- what one turn sends all of them send

module _ {S M : Type 0} (change : S → ℕ → S × List M) (m : M) (x : ℕ) (sends : (s : S) → Contains (change s x).1 m) where
  pub in_turn : (xs : List ℕ) → list_any (λ y. y == x) xs ≡ true → (s : S) → Contains (each_in_turn change s xs).1 m
  unfolding each_in_turn
  in_turn [] e s = cc
  in_turn (y ∷ ys) e s = go (in_turn ys) (y == x) refl e
    where
      go : (list_any (λ z. z == x) ys ≡ true → (t : S) → Contains (each_in_turn change t ys).1 m)
          → (b : Bool) → (y == x) ≡ b → (b || list_any (λ z. z == x) ys) ≡ true
          → Contains ((change s y).1 ++ (each_in_turn change (change s y).0 ys).1) m
      go later true same f =
          Contains-append_left (change s y).1 _ m
          (subst (λ (z : ℕ). Contains (change s z).1 m) (sym (eqb-true y x same)) (sends s))
      go later false off f = Contains-append_right (change s y).1 _ m (later f (change s y).0)

-- ---- what is told is written

module _ (cs : Addressing) (i up g : ℕ) (js ps : List Entry) where
  abbrev told : Message
  told = Message.JoinPrune i up g js ps

  abbrev packet : Emission
  packet = on_link i (pim_packet_text 1 (address_among cs i) all_pim_routers (join_prune_text up g js ps))

  written_there : (t : InterfaceTable) → t.configured ≡ cs → Contains (written t told).1 packet
  unfolding written with_owed_hello emission_of pim_on_link
  written_there t same = grind arith

  still_configured : (t : InterfaceTable) (m : Message) → ((written t m).0).configured ≡ t.configured
  unfolding written with_owed_hello hello_paid
  still_configured t m = grind arith

  pub all_there : (ms : List Message) (t : InterfaceTable) → t.configured ≡ cs → Contains ms told
      → Contains (all_written t ms).1 packet
  unfolding all_written each_in_turn
  all_there [] t same c = absurd (omega (arith, c.1))
  all_there (m ∷ ms) t same c =
      go (all_there ms (written t m).0 (still_configured t m ∙ same)) c.0 c.1 c.2
    where
      go : (Contains ms told → Contains (all_written (written t m).0 ms).1 packet)
          → (k : ℕ) → k < length (m ∷ ms) → get_or (m ∷ ms) k told ≡ told
          → Contains ((written t m).1 ++ (all_written (written t m).0 ms).1) packet
      go later zero l e =
          Contains-append_left (written t m).1 _ packet
          (subst (λ (x : Message). Contains (written t x).1 packet) (sym e) (written_there t same))
      go later (suc k) l e = Contains-append_right (written t m).1 _ packet (later (k, omega arith, e))

-- ---- a change with what follows

module _ (o : State) (c : State × List Message) (w : ℕ) where
  abbrev cleared_state : State
  cleared_state = (clear o c.0).0

  abbrev end_state : State
  end_state = (settled o c w).0

  -- what is told and written changes nothing that the macros read
  pub rest_agrees : AgreesBut (touching []) cleared_state end_state
  unfolding settled
  rest_agrees = grind (arith, agrees_then, frame_upstream, frame_packets)

  pub untouched : (k : Key) → touching [] k ≡ false
  unfolding touching
  untouched k = refl

  pub ends_configured : (end_state).configured ≡ (cleared_state).configured
  ends_configured = ap (λ (u : Untold). u.unsettled.configured) (cleared_in_the_end o c w)

  pub told_configured : ((upstream o cleared_state w).0).configured ≡ (cleared_state).configured
  told_configured = ap (λ (u : Untold). u.unsettled.configured) (telling_leaves o cleared_state w)

  pub same_star_view : (g : ℕ) → star_view cleared_state g ≡ star_view end_state g
  same_star_view g =
      same_by_scope (star_key 0 g) (λ x. star_view x g)
      (λ x. star_view_local (reads (star_key 0 g)) x g (stars_read (star_key 0 g))) cleared_state end_state
      (rest_agrees (star_key 0 g) (untouched (star_key 0 g)))

  pub told_leaves : (i up g : ℕ) (js ps : List Entry)
      → Contains (upstream o cleared_state w).1 (Message.JoinPrune i up g js ps)
      → Contains (settled o c w).1
      (on_link i (pim_packet_text 1 (my_address end_state i) all_pim_routers (join_prune_text up g js ps)))
  unfolding settled write_all
  told_leaves i up g js ps f = grind (arith, all_there, told_configured, ends_configured, Contains-append_right)

-- ---- a source is pruned off the tree with a Join(*,G), or not

is_pruned_local : (sees : Key → Bool) (s : State) (g src : ℕ) → ReadsSource sees g src
    → is_pruned_with_star (scope sees s) g src ≡ is_pruned_with_star s g src
unfolding is_pruned_with_star is_empty scope
is_pruned_local sees s g src rows =
    grind (arith, spt_bit_local, rpf_star_local, rpf_source_local, inherited_olist_rpt_local, rpf_rpt_local)

pub is_pruned_at_end : (o : State) (c : State × List Message) (w g src : ℕ)
    → is_pruned_with_star (clear o c.0).0 g src ≡ is_pruned_with_star (settled o c w).0 g src
is_pruned_at_end o c w g src =
    same_by_scope (source_key 0 g src) (λ x. is_pruned_with_star x g src)
    (λ x. is_pruned_local (reads (source_key 0 g src)) x g src (place_read (source_key 0 g src))) (clear o c.0).0
    (settled o c w).0 (rest_agrees o c w (source_key 0 g src) (untouched o c w (source_key 0 g src)))

each_taken : {X : Type 0} (P : X → Type 0) (n : ℕ) (xs : List X) → AllByRecursion P xs → AllByRecursion P (take n xs)
each_taken P zero xs f = tt
each_taken P (suc n) [] f = tt
each_taken P (suc n) (x ∷ xs) f = (f.0, each_taken P n xs f.1)

-- ---- the group is told of

-- a group is listed where a key is of it
pub group_is_listed : (g : ℕ) (ks : List Key) → list_any (λ n. n == g) (groups_of ks) ≡ list_any (λ k. is_of_group g k) ks
unfolding groups_of
group_is_listed g ks = any_ascending (λ n. n == g) (map group_in ks) ∙ any_of_map (λ n. n == g) group_in ks

pub wanted_is_fact : (g : ℕ) (s : State) → join_desired_star s g ≡ true → list_any (λ k. is_of_group g k) (fact_keys s) ≡ true
wanted_is_fact g s wanted = grind (arith, both_ways, absent_is_undesired)

wanted_has_facts : (g : ℕ) (o a : State) → join_desired_star a g ≡ true
    → list_any (λ n. n == g) (groups_of (fact_keys o ++ fact_keys a)) ≡ true
wanted_has_facts g o a wanted = grind (arith, group_is_listed, list_any-append, or_right, wanted_is_fact)

abbrev joins_of : State → ℕ → ℕ → Hop → Message
joins_of a g rp hop =
    Message.JoinPrune hop.iface.number hop.address.bits g (entry EntryKind.Star rp ∷ []) (pruned_with_star a g)

star_says : (a : State) (w g rp : ℕ) (hop : Hop) (old new : StarView) → old.is_desired ≡ false → new.is_desired ≡ true
    → new.rp ≡ Some (addr rp) → new.upstream ≡ Some hop
    → (star_told a w g old new).messages ≡ joins_of a g rp hop ∷ []
unfolding star_told join_star_to join_prune_to
star_says a w g rp hop old new unwanted wanted known up = rw (wanted, unwanted, known, up) refl

group_says : (o a : State) (w g rp : ℕ) (hop : Hop) (keys : List Key) → join_desired_star o g ≡ false
    → (star_view a g).is_desired ≡ true → (star_view a g).rp ≡ Some (addr rp) → (star_view a g).upstream ≡ Some hop
    → (s : State) → Contains (group_upstream o a w keys s g).1 (joins_of a g rp hop)
unfolding group_upstream star_view
group_says o a w g rp hop keys unwanted wanted known up s = grind (arith, Contains-append_left, star_says)

pub settled_sends : (o : State) (c : State × List Message) (w g rp : ℕ) (hop : Hop)
    → ComesToWantStar o (settled o c w).0 g rp hop → SendsStar (settled o c w).0 g rp hop (settled o c w).1
unfolding join_to join_packet pruned_with_star star_view upstream
settled_sends o c w g rp hop f =
    let a : State = (clear o c.0).0 in
    let t : State = (settled o c w).0 in
    let view : star_view a g ≡ star_view t g = same_star_view o c w g in
    let desired : (star_view a g).is_desired ≡ true = ap (λ (v : StarView). v.is_desired) view ∙ star_wanted t f.wanted in
    let known : (star_view a g).rp ≡ Some (addr rp) = ap (λ (v : StarView). v.rp) view ∙ star_known t f.rp_known in
    let up : (star_view a g).upstream ≡ Some hop = ap (λ (v : StarView). v.upstream) view ∙ star_up t f.upstream in
    record {
      pruned = take most_pruned (filter (is_pruned_with_star a g) (sources_of g (fact_keys a)));
      to_prune = each_more (λ src. is_pruned_with_star a g src ≡ true) (λ src. is_pruned_with_star t g src ≡ true)
          (λ src e. sym (is_pruned_at_end o c w g src) ∙ e) _
          (each_taken _ most_pruned _ (each_passes (is_pruned_with_star a g) (sources_of g (fact_keys a))));
      is_sent = told_leaves o c w hop.iface.number hop.address.bits g (entry EntryKind.Star rp ∷ []) (pruned_with_star a g)
          (told_of_group a desired known up);
    }
  where
    star_wanted : (t : State) → join_desired_star t g ≡ true → (star_view t g).is_desired ≡ true
    star_wanted t e = e

    star_known : (t : State) → rp_of t g ≡ Some rp → (star_view t g).rp ≡ Some (addr rp)
    star_known t e = ap (option_map addr) e

    star_up : (t : State) → rpf_star t g ≡ Some hop → (star_view t g).upstream ≡ Some hop
    star_up t e = e

    wanted_now : (a : State) → (star_view a g).is_desired ≡ true → join_desired_star a g ≡ true
    wanted_now a e = e

    told_of_group : (a : State) → (star_view a g).is_desired ≡ true → (star_view a g).rp ≡ Some (addr rp)
        → (star_view a g).upstream ≡ Some hop → Contains (upstream o a w).1 (joins_of a g rp hop)
    told_of_group a desired known up =
        in_turn (group_upstream o a w (fact_keys o ++ fact_keys a)) (joins_of a g rp hop) g
        (group_says o a w g rp hop (fact_keys o ++ fact_keys a) f.unwanted desired known up)
        (groups_of (fact_keys o ++ fact_keys a)) (wanted_has_facts g o a (wanted_now a desired)) a

-- ---- by an event, or by the expiry of a timer

-- what isn't time has a change of its own
pub taken_is_done : (s : State) (w : ℕ) (a : Accepted) → is_time a ≡ false → taken s w a ≡ done s w (change s w a)
unfolding taken
taken_is_done s w a e = grind arith

pub star_join_leaves : StarJoinLeaves
unfolding done
star_join_leaves s e a g rp hop was timeless f =
    let is : step s e ≡ done s e.draw (change s e.draw a) =
    step_taken s e a was ∙ taken_is_done s e.draw a timeless in
    let c : State × List Message = ((change s e.draw a).state, (change s e.draw a).messages) in
    let sends : SendsStar (settled s c e.draw).0 g rp hop (settled s c e.draw).1 =
    settled_sends s c e.draw g rp hop (subst (λ x. ComesToWantStar s x.state g rp hop) is f) in
    subst (λ x. SendsStar x.state g rp hop x.emissions) (sym is) (record {
      pruned = sends.pruned;
      to_prune = sends.to_prune;
      is_sent = Contains-append_left ((settled s c e.draw).1 ++ (change s e.draw a).copies) (change s e.draw a).registered _
          (Contains-append_left (settled s c e.draw).1 (change s e.draw a).copies _ sends.is_sent);
    })

pub star_join_leaves_in_time : StarJoinLeavesInTime
unfolding fire_once
star_join_leaves_in_time w s e g rp hop f = settled_sends s _ w g rp hop f
