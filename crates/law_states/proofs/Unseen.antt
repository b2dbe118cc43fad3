-- Interfaces that are appended are down, so that no macro sees them; and none but the timers' spans sees delays.
use Rattle.std.{proofs.{Common.{◌≡◌, ◌==◌, ℕ, zero, suc, ◌<◌, ◌≤◌, ◌+◌, ◌-◌, ⊎_elim, ◌&&◌, ◌||◌, not, cond, Bool, true, false, List, [], ◌∷◌, ◌++◌, Option, Some, None, option_map, is_some, append-nil, length, length-append, map, filter, refl, sym, ap, ◌∙◌, arith, eqb-true, ltb-true}, lemmas.{Bool.cases_lt, List.Folds.list_any-append}}, specs.{List.{AllByRecursion, find, list_all, list_any, range_with_len}, Option.{option_map_or, option_or}, Prelude.{if◌then◌else◌, option_and_then, slice_get}}}
use Rattle.pim_types.{specs.{declared.{config.InterfaceConfig.InterfaceConfig, fact.{AssertRow.AssertRow, Key.Key, NeighbourRow.NeighbourRow, RegisterRow.RegisterRow, SourceRow.SourceRow, GroupRecordRow.GroupRecordRow}, path.Path.Path, outcome.{Emission.Emission, Outcome.Outcome}, upstream.{SourceView.SourceView, TreeState.TreeState}}, Keys.{group_in, iface_in, is_of_group, is_on, is_star, rpt_key, source_in, source_key, star_key}}}
use Rattle.pim_model.{specs.{Asserts.{could_assert_at, is_tracking_at, my_metric_at}, Clearing.{assert_must_go, assert_to_clear, clear, clear_all, clearable_count, cleared, first_by, is_rpf_at, spt_must_go, spt_to_clear, to_clear}, Firing.settled, Messages.Message, Querier.each_in_turn, Registers.{could_register, has_other_rp, settle_registers}, Step.{ran, rps_replaced}, Writing.{all_written, write_all}, AssertMacros.{could_assert, could_assert_star, forwarding_set, infinite, is_tracking_desired, is_tracking_desired_star, my_metric, my_metric_star}, Desires.{is_immediate_empty, is_inherited_empty, join_desired, join_desired_star, prune_desired, rpf_rpt, rpf_source, rpf_star, tree_state, winner_hop}, Neighbours.{is_dr, is_dr_among, is_neighbour, nbr, nbr_among, neighbours_on}, Receivers.{is_exclude, is_exclude_among, local_receiver_exclude, local_receiver_include, local_receiver_include_among, source_record_among}, Sets.{assert_source, assert_star, immediate_olist, immediate_olist_star, inherited_olist, inherited_olist_rpt, is_beaten, is_better, is_empty, is_kept_alive, is_loser, is_winner, joins, joins_star, lost_assert, lost_assert_rpt, lost_assert_star, pim_exclude, pim_include, pim_include_star, prunes, route_metric, rpt_metric, serves, serves_star, spt_bit, spt_metric, tunnel}, State.{Addressing, State, address_among, iface_config, iface_count, is_own, is_own_among, is_up, my_address, my_priority, settings_of}, Tables.{Table, below, has_row, keys_in, row_at, rows_on, same_bool, same_hop, same_option}, Unicast.{is_on_link_among, link_among, route, route_among, routed_among, rp_of, rp_route, rpf_interface, rpf_interface_rp, link_path, subnet}, Upstream.{Told, fact_keys, group_upstream, groups_of, nothing_told, rpt_told, source_told, source_upstream, source_view, sources_of, star_told, star_view, upstream, with_join_timer, with_override_timer}}}
use Rattle.pim_ip.{specs.{Addr.addr, Prefixes.contains, declared.addr.Addr.Addr}}
use Rattle.law_settled.{proofs.{ListLaws.{any_among_all, any_of_filter, each_both, each_more, each_of_list, list_of_each}, Numbers.any_ascending, TableLaws.{any_of_map, row_is_there}, TurnLaws.same_when_none}, specs.Ready.IsTidy}
use Rattle.law_events.{specs.{Locality.{IsQuiet, is_register_settled, touched_registers, touching}, Rest.IsAtRest}, proofs.{Differing.none_left, Registers.registers_of_touched, Touches.touching_is_closed, Turns.turns_filtered, UntoldKeys.{source_untold_where_agreed, star_untold_where_agreed}}}
use Rattle.law_states.{specs.{Reload.config_of, ReloadLaws.{AppendedMoveNothing, AreConfigured, AreNew, DelaysMoveNothing, appended, next_query_is_near, with_addressing, with_more, without_delays}, Reloading.{down_event, goodbyes, hellos_anew, reload, removals, replaced, says_other, sent_by, tells_anew, under}}, proofs.{Goodbyes.none_say, Queriers.same_queriers, WonAsserts.{SameAt, same_asserts}, ReloadedSettings.{and_false, same_is_not_other, same_ranges}}}

-- ---- lists with more behind

slice_front : {X : Type 0} (xs ys : List X) (i : ℕ) → i < length xs → slice_get (xs ++ ys) i ≡ slice_get xs i
slice_front [] ys i low = absurd (omega (arith, low))
slice_front (x ∷ xs) ys zero low = refl
slice_front (x ∷ xs) ys (suc i) low = slice_front xs ys i (omega (arith, low))

module _ (p q : ℕ → Bool) where
  abbrev Same : ℕ → ℕ → Type 0
  Same a k = (i : ℕ) → a ≤ i → i < a + k → p i ≡ q i

  abbrev Past : ℕ → Type 0
  Past a = (i : ℕ) → a ≤ i → p i ≡ false

  none_any : (a m : ℕ) → Past a → list_any p (range_with_len a m) ≡ false
  none_any a zero past = refl
  none_any a (suc m) past = rw (past a (omega arith)) (none_any (a + 1) m (λ i low. past i (omega (arith, low))))

  none_found : (a m : ℕ) → Past a → find p (range_with_len a m) ≡ None
  none_found a zero past = refl
  none_found a (suc m) past = rw (past a (omega arith)) (none_found (a + 1) m (λ i low. past i (omega (arith, low))))

  pub any_front : (k total a : ℕ) → k ≤ total → Same a k → Past (a + k)
      → list_any p (range_with_len a total) ≡ list_any q (range_with_len a k)
  any_front zero total a fit same past = none_any a total (λ i low. past i (omega (arith, low)))
  any_front (suc k) zero a fit same past = absurd (omega (arith, fit))
  any_front (suc k) (suc total) a fit same past =
      rw (same a (omega arith) (omega arith))
      (ap (λ (b : Bool). q a || b)
      (any_front k total (a + 1) (omega (arith, fit)) (λ i low high. same i (omega (arith, low)) (omega (arith, high)))
      (λ i low. past i (omega (arith, low)))))

  pub find_front : (k total a : ℕ) → k ≤ total → Same a k → Past (a + k)
      → find p (range_with_len a total) ≡ find q (range_with_len a k)
  find_front zero total a fit same past = none_found a total (λ i low. past i (omega (arith, low)))
  find_front (suc k) zero a fit same past = absurd (omega (arith, fit))
  find_front (suc k) (suc total) a fit same past =
      rw (same a (omega arith) (omega arith))
      (ap (λ (o : Option ℕ). cond (q a) (Some a) o)
      (find_front k total (a + 1) (omega (arith, fit)) (λ i low high. same i (omega (arith, low)) (omega (arith, high)))
      (λ i low. past i (omega (arith, low)))))

-- ---- the state with more interfaces

-- an address is the router's by the one and not by the other
abbrev pub is_moved : Addressing → Addressing → ℕ → Bool
is_moved before after a = not (same_bool (is_own_among after a) (is_own_among before a))

-- The interfaces are configured alike, as far as macros read it, and more may follow.
pub record IsAlike (s : State) (after : Addressing) : Type 0 where
  pub longer : iface_count s ≤ length after.interfaces
  pub priority : (i : ℕ) → i < iface_count s → my_priority (record s { configured = after }) i ≡ my_priority s i
  pub address : (i : ℕ) → i < iface_count s → my_address (record s { configured = after }) i ≡ my_address s i
  pub link : (i a : ℕ) → i < iface_count s
      → option_map_or (λ (c : InterfaceConfig). contains (subnet c) a) (slice_get after.interfaces i) false
      ≡ option_map_or (λ (c : InterfaceConfig). contains (subnet c) a) (slice_get s.configured.interfaces i) false
  pub rps : (g rp : ℕ) → rp_of s g ≡ Some rp → is_own_among after rp ≡ is_own_among s.configured rp
  pub sources : list_any (λ k. is_moved s.configured after (source_in k)) (fact_keys s) ≡ false

both_same : (a b : Bool) → not (same_bool a b) ≡ false → a ≡ b
both_same true true e = refl
both_same true false e = cc
both_same false true e = cc
both_same false false e = refl

module _ (s : State) (cs : Addressing) (tidy : IsTidy s) (are : AreConfigured s) (alike : IsAlike s cs) where
  abbrev x : State
  x = record s { configured = cs }

  abbrev differs : ℕ → Bool
  differs a = is_moved s.configured cs a

  abbrev Stays : ℕ → Type 0
  Stays a = is_own_among cs a ≡ is_own_among s.configured a

  stays : (a : ℕ) → differs a ≡ false → Stays a
  stays a e = both_same (is_own_among cs a) (is_own_among s.configured a) e

  abbrev n : ℕ
  n = iface_count s

  -- ---- one interface

  dr_same : (i : ℕ) → i < n → is_dr x i ≡ is_dr s i
  unfolding is_dr
  dr_same i low = λ j. is_dr_among (alike.priority i low j) (alike.address i low j) (neighbours_on s i)

  address_same : (i : ℕ) → i < n → my_address x i ≡ my_address s i
  address_same i low = alike.address i low

  down : (i : ℕ) → n ≤ i → (b : Bool) → is_up s i ≡ b → b ≡ false
  down i past true e = let low : i < n = ltb-true i n (are i e) in absurd (omega (arith, past, low))
  down i past false e = refl

  -- no row is of an interface past the last
  no_row : {R : Type 0} (rows : Table R) → list_all (λ (e : Key × R). is_up s (iface_in e.0)) rows ≡ true → (k : Key)
      → n ≤ iface_in k → row_at rows k ≡ None
  no_row {R} rows up k past = go (row_at rows k) refl
    where
      none : {C : Type 0} (b : Bool) → b ≡ true → not b ≡ true → C
      none true e f = absurd cc
      none false e f = absurd cc

      go : (o : Option R) → row_at rows k ≡ o → o ≡ None
      go None e = refl
      go (Some r) e =
          any_among_all (λ (e : Key × R). is_up s (iface_in e.0) ≡ true) (λ (e : Key × R). not (is_up s (iface_in e.0)))
          (λ e f g. none (is_up s (iface_in e.0)) f g) rows
          (each_of_list (λ (e : Key × R). is_up s (iface_in e.0)) rows up)
          (row_is_there (λ (e : Key × R). not (is_up s (iface_in e.0))) k rows r
          (ap not (down (iface_in k) past (is_up s (iface_in k)) refl)) e)

  -- ---- addresses and routes

  own_same : (a : ℕ) → Stays a → is_own x a ≡ is_own s a
  own_same a free = free

  link_same : (a : ℕ) → link_among x.configured s.interfaces a ≡ link_among s.configured s.interfaces a
  unfolding link_among is_on_link_among
  link_same a =
      find_front (is_on_link_among x.configured s.interfaces a) (is_on_link_among s.configured s.interfaces a) n
      (iface_count x) 0 alike.longer
      (λ i low high. on_same i (omega (arith, high))) (λ i past. off i (omega (arith, past)))
    where
      on_same : (i : ℕ) → i < n
          → is_on_link_among x.configured s.interfaces a i ≡ is_on_link_among s.configured s.interfaces a i
      on_same i high = ap (λ (b : Bool). is_up s i && b) (alike.link i a high)

      off : (i : ℕ) → n ≤ i → is_on_link_among x.configured s.interfaces a i ≡ false
      off i past = rw (down i past (is_up s i) refl) refl

  route_same : (a : ℕ) → Stays a → route x a ≡ route s a
  unfolding route route_among
  route_same a free =
      λ j. (let over_route : Option Path = routed_among s.interfaces s.routes a in
      if own_same a free j then None
      else option_map_or (λ i. Some (link_path a i)) (link_same a j) over_route)

  rp_route_same : (g : ℕ) → rp_route x g ≡ rp_route s g
  unfolding rp_route rp_of
  rp_route_same g = go (rp_of s g) refl
    where
      go : (o : Option ℕ) → rp_of s g ≡ o → option_and_then (route x) o ≡ option_and_then (route s) o
      go None e = refl
      go (Some rp) e = route_same rp (alike.rps g rp e)

  -- ---- emptiness, by what the sets have of one interface

  empty_same : (p q : ℕ → Bool) → ((i : ℕ) → i < n → p i ≡ q i) → ((i : ℕ) → n ≤ i → p i ≡ false)
      → is_empty x p ≡ is_empty s q
  unfolding is_empty
  empty_same p q same off =
      ap not (any_front p q n (iface_count x) 0 alike.longer (λ i low high. same i (omega (arith, high)))
      (λ i past. off i (omega (arith, past))))

  -- ---- (*,G)

  module _ (g : ℕ) where
    rpf_rp_same : rpf_interface_rp x g ≡ rpf_interface_rp s g
    unfolding rpf_interface_rp
    rpf_rp_same = ap (option_map (λ (p : Path). p.iface.number)) (rp_route_same g)

    own_rp_same : option_map_or (is_own x) (rp_of x g) false ≡ option_map_or (is_own s) (rp_of s g) false
    unfolding rp_of
    own_rp_same = go (rp_of s g) refl
      where
        go : (o : Option ℕ) → rp_of s g ≡ o → option_map_or (is_own x) o false ≡ option_map_or (is_own s) o false
        go None e = refl
        go (Some rp) e = own_same rp (alike.rps g rp e)

    lost_star_same : (i : ℕ) → lost_assert_star x g i ≡ lost_assert_star s g i
    unfolding lost_assert_star
    lost_star_same i = λ j. not (same_option (rpf_rp_same j) (Some i)) && is_loser (assert_star s g i)

    serves_star_same : (i : ℕ) → i < n → serves_star x g i ≡ serves_star s g i
    unfolding serves_star
    serves_star_same i low =
        λ j. (dr_same i low j && not (lost_star_same i j)) || is_winner (assert_star s g i)

    include_star_same : (i : ℕ) → i < n → pim_include_star x g i ≡ pim_include_star s g i
    unfolding pim_include_star is_exclude
    include_star_same i low = λ j. serves_star_same i low j && is_exclude s g i

    joins_star_none : (i : ℕ) → n ≤ i → joins_star x g i ≡ false
    unfolding joins_star has_row
    joins_star_none i past = ap is_some (no_row s.downstream tidy.downstream (star_key i g) past)

    exclude_none : (i : ℕ) → n ≤ i → is_exclude s g i ≡ false
    unfolding is_exclude is_exclude_among
    exclude_none i past =
        ap (λ (o : Option GroupRecordRow). option_map_or (λ (r : GroupRecordRow). is_some r.end) o false)
        (no_row s.group_records tidy.group_records (star_key i g) past)

    include_star_none : (i : ℕ) → n ≤ i → pim_include_star x g i ≡ false
    unfolding pim_include_star is_exclude
    include_star_none i past =
        ap (λ (b : Bool). serves_star x g i && b) (exclude_none i past) ∙ and_false (serves_star x g i)

    star_desired_same : join_desired_star x g ≡ join_desired_star s g
    unfolding join_desired_star immediate_olist_star joins_star
    star_desired_same =
        ap not (empty_same (immediate_olist_star x g) (immediate_olist_star s g)
        (λ i low j. (joins_star s g i || include_star_same i low j) && not (lost_star_same i j))
        (λ i past j. (joins_star_none i past j || include_star_none i past j) && not (lost_assert_star x g i)))

    nbr_rp_same : nbr x (rp_route x g) ≡ nbr s (rp_route s g)
    unfolding nbr
    nbr_rp_same = ap (nbr_among s.neighbours) (rp_route_same g)

    rpf_star_same : rpf_star x g ≡ rpf_star s g
    unfolding rpf_star
    rpf_star_same = λ j. option_or (winner_hop (rpf_rp_same j) (assert_star s g)) (nbr_rp_same j)

    star_view_same : star_view x g ≡ star_view s g
    unfolding star_view rp_of
    star_view_same = λ j. record {
      is_desired = star_desired_same j;
      rp = option_map addr (rp_of s g);
      iface = option_map (λ (p : Path). p.iface) (rp_route_same g j);
      next_hop = nbr_rp_same j;
      upstream = rpf_star_same j;
    }

    could_star_same : (i : ℕ) → i < n → could_assert_star x g i ≡ could_assert_star s g i
    unfolding could_assert_star joins_star
    could_star_same i low =
        λ j. (joins_star s g i || include_star_same i low j) && not (same_option (rpf_rp_same j) (Some i))

    track_star_same : (i : ℕ) → i < n → is_tracking_desired_star x g i ≡ is_tracking_desired_star s g i
    unfolding is_tracking_desired_star is_exclude
    track_star_same i low =
        λ j. could_star_same i low j
        || (is_exclude s g i && (dr_same i low j || is_winner (assert_star s g i)))
        || (same_option (rpf_rp_same j) (Some i) && star_desired_same j)

    rpt_metric_same : (i : ℕ) → i < n → rpt_metric x g i ≡ rpt_metric s g i
    unfolding rpt_metric
    rpt_metric_same i low = λ j. route_metric true (address_same i low j) (own_rp_same j) (rp_route_same g j)

    metric_star_same : (i : ℕ) → i < n → my_metric_star x g i ≡ my_metric_star s g i
    unfolding my_metric_star
    metric_star_same i low = λ j. if could_star_same i low j then rpt_metric_same i low j else infinite

    -- ---- (S,G) and (S,G,rpt)

    module _ (src : ℕ) (free : Stays src) where
      rpf_same : rpf_interface x src ≡ rpf_interface s src
      unfolding rpf_interface
      rpf_same = ap (option_map (λ (p : Path). p.iface.number)) (route_same src free)

      metric_same : (i : ℕ) → i < n → spt_metric x src i ≡ spt_metric s src i
      unfolding spt_metric
      metric_same i low = λ j. route_metric false (address_same i low j) (own_same src free j) (route_same src free j)

      lost_same : (i : ℕ) → i < n → lost_assert x g src i ≡ lost_assert s g src i
      unfolding lost_assert is_beaten
      lost_same i low =
          λ j. not (same_option (rpf_same j) (Some i)) && is_loser (assert_source s g src i)
          && option_map_or (λ (r : AssertRow). is_better r.winner (metric_same i low j)) (assert_source s g src i) false

      lost_rpt_same : (i : ℕ) → lost_assert_rpt x g src i ≡ lost_assert_rpt s g src i
      unfolding lost_assert_rpt spt_bit
      lost_rpt_same i =
          λ j. not (same_option (rpf_rp_same j) (Some i) || (same_option (rpf_same j) (Some i) && spt_bit s g src))
          && is_loser (assert_source s g src i)

      serves_same : (i : ℕ) → i < n → serves x g src i ≡ serves s g src i
      unfolding serves
      serves_same i low = λ j. (dr_same i low j && not (lost_same i low j)) || is_winner (assert_source s g src i)

      include_same : (i : ℕ) → i < n → pim_include x g src i ≡ pim_include s g src i
      unfolding pim_include local_receiver_include
      include_same i low = λ j. serves_same i low j && local_receiver_include s g src i

      exclude_same : (i : ℕ) → i < n → pim_exclude x g src i ≡ pim_exclude s g src i
      unfolding pim_exclude local_receiver_exclude
      exclude_same i low = λ j. serves_star_same i low j && local_receiver_exclude s g src i

      joins_none : (i : ℕ) → n ≤ i → joins x g src i ≡ false
      unfolding joins has_row
      joins_none i past = ap is_some (no_row s.downstream tidy.downstream (source_key i g src) past)

      receiver_none : (i : ℕ) → n ≤ i → local_receiver_include s g src i ≡ false
      unfolding local_receiver_include local_receiver_include_among is_exclude_among has_row
      receiver_none i past =
          ap (λ (o : Option GroupRecordRow).
          (is_some o && not (option_map_or (λ (r : GroupRecordRow). is_some r.end) o false))
          && is_some (source_record_among s.source_records g src i))
          (no_row s.group_records tidy.group_records (star_key i g) past)

      include_none : (i : ℕ) → n ≤ i → pim_include x g src i ≡ false
      unfolding pim_include local_receiver_include
      include_none i past =
          ap (λ (b : Bool). serves x g src i && b) (receiver_none i past) ∙ and_false (serves x g src i)

      immediate_empty_same : is_immediate_empty x g src ≡ is_immediate_empty s g src
      unfolding is_immediate_empty immediate_olist joins tunnel
      immediate_empty_same =
          ap (λ (b : Bool). b && not (tunnel s g src)) (empty_same (immediate_olist x g src) (immediate_olist s g src)
          (λ i low j. (joins s g src i || include_same i low j) && not (lost_same i low j))
          (λ i past j. (joins_none i past j || include_none i past j) && not (lost_assert x g src i)))

      rpt_same : (i : ℕ) → i < n → inherited_olist_rpt x g src i ≡ inherited_olist_rpt s g src i
      unfolding inherited_olist_rpt joins_star prunes
      rpt_same i low =
          λ j. ((joins_star s g i && not (prunes s g src i))
          || (include_star_same i low j && not (exclude_same i low j)))
          && not (lost_star_same i j || lost_rpt_same i j)

      rpt_none : (i : ℕ) → n ≤ i → inherited_olist_rpt x g src i ≡ false
      unfolding inherited_olist_rpt
      rpt_none i past =
          λ j. ((joins_star_none i past j && not (prunes x g src i))
          || (include_star_none i past j && not (pim_exclude x g src i)))
          && not (lost_assert_star x g i || lost_assert_rpt x g src i)

      rpt_empty_same : is_empty x (inherited_olist_rpt x g src) ≡ is_empty s (inherited_olist_rpt s g src)
      rpt_empty_same = empty_same (inherited_olist_rpt x g src) (inherited_olist_rpt s g src) rpt_same rpt_none

      inherited_empty_same : is_inherited_empty x g src ≡ is_inherited_empty s g src
      unfolding is_inherited_empty inherited_olist joins tunnel
      inherited_empty_same =
          ap (λ (b : Bool). b && not (tunnel s g src)) (empty_same (inherited_olist x g src) (inherited_olist s g src)
          (λ i low j. ((rpt_same i low j || joins s g src i) || include_same i low j) && not (lost_same i low j))
          (λ i past j. ((rpt_none i past j || joins_none i past j) || include_none i past j) && not (lost_assert x g src i)))

      desired_same : join_desired x g src ≡ join_desired s g src
      unfolding join_desired is_kept_alive
      desired_same =
          λ j. not (immediate_empty_same j) || (is_kept_alive s g src && not (inherited_empty_same j))

      nbr_same : nbr x (route x src) ≡ nbr s (route s src)
      unfolding nbr
      nbr_same = ap (nbr_among s.neighbours) (route_same src free)

      rpf_source_same : rpf_source x g src ≡ rpf_source s g src
      unfolding rpf_source
      rpf_source_same = λ j. option_or (winner_hop (rpf_same j) (assert_source s g src)) (nbr_same j)

      rpf_rpt_same : rpf_rpt x g src ≡ rpf_rpt s g src
      unfolding rpf_rpt
      rpf_rpt_same = λ j. option_or (winner_hop (rpf_rp_same j) (assert_source s g src)) (rpf_star_same j)

      tree_same : tree_state x g src ≡ tree_state s g src
      unfolding tree_state prune_desired spt_bit
      tree_same =
          λ j. if star_desired_same j
          then (if (star_desired_same j && (rpt_empty_same j
          || (spt_bit s g src && not (same_hop (rpf_star_same j) (rpf_source_same j)))))
          then TreeState.Pruned else TreeState.NotPruned) else TreeState.NotJoined

      source_view_same : source_view x g src ≡ source_view s g src
      unfolding source_view
      source_view_same = λ j. record {
        is_desired = desired_same j;
        iface = option_map (λ (p : Path). p.iface) (route_same src free j);
        next_hop = nbr_same j;
        upstream = rpf_source_same j;
        star_upstream = rpf_star_same j;
        tree_upstream = rpf_rpt_same j;
        tree = tree_same j;
      }

      forwarding_same : (i : ℕ) → i < n → forwarding_set x g src i ≡ forwarding_set s g src i
      unfolding forwarding_set joins_star prunes joins
      forwarding_same i low =
          λ j. (((joins_star s g i && not (prunes s g src i))
          || (include_star_same i low j && not (exclude_same i low j)))
          && not (lost_star_same i j)) || joins s g src i

      could_same : (i : ℕ) → i < n → could_assert x g src i ≡ could_assert s g src i
      unfolding could_assert spt_bit
      could_same i low =
          λ j. spt_bit s g src && not (same_option (rpf_same j) (Some i))
          && (forwarding_same i low j || include_same i low j)

      track_same : (i : ℕ) → i < n → is_tracking_desired x g src i ≡ is_tracking_desired s g src i
      unfolding is_tracking_desired local_receiver_include spt_bit
      track_same i low =
          λ j. forwarding_same i low j
          || (local_receiver_include s g src i && (dr_same i low j || is_winner (assert_source s g src i)))
          || (same_option (rpf_same j) (Some i) && desired_same j)
          || (same_option (rpf_rp_same j) (Some i) && star_desired_same j && not (spt_bit s g src))

      my_metric_same : (i : ℕ) → i < n → my_metric x g src i ≡ my_metric s g src i
      unfolding my_metric
      my_metric_same i low =
          λ j. if could_same i low j then metric_same i low j else metric_star_same i low j

  -- ---- the DR, also of interfaces past the last

  none_passing : {X : Type 0} (p : X → Bool) (xs : List X) → AllByRecursion (λ e. p e ≡ false) xs → filter p xs ≡ []
  none_passing p [] h = refl
  none_passing p (e ∷ xs) h = rw h.0 (none_passing p xs h.1)

  elsewhere : (i : ℕ) → n ≤ i → (k : Key) → is_up s (iface_in k) ≡ true → (b : Bool) → is_on i k ≡ b → b ≡ false
  elsewhere i past k up true e =
      let low : iface_in k < n = ltb-true (iface_in k) n (are (iface_in k) up) in
      let same : iface_in k ≡ i = eqb-true (iface_in k) i e in
      absurd (omega (arith, past, low, same))
  elsewhere i past k up false e = refl

  none_on : (i : ℕ) → n ≤ i → neighbours_on s i ≡ []
  unfolding rows_on
  none_on i past =
      none_passing (λ e. is_on i e.0) s.neighbours
      (each_more (λ e. is_up s (iface_in e.0) ≡ true) (λ e. is_on i e.0 ≡ false)
      (λ e up. elsewhere i past e.0 up (is_on i e.0) refl) s.neighbours
      (each_of_list (λ e. is_up s (iface_in e.0)) s.neighbours tidy.neighbours))

  alone : (priority address : ℕ) (rows : Table NeighbourRow) → rows ≡ [] → is_dr_among priority address rows ≡ true
  unfolding is_dr_among
  alone priority address rows e = rw e refl

  dr_past : (i : ℕ) → n ≤ i → is_dr x i ≡ is_dr s i
  unfolding is_dr
  dr_past i past =
      alone _ _ (neighbours_on s i) (none_on i past) ∙ sym (alone _ _ (neighbours_on s i) (none_on i past))

  dr_all : (i : ℕ) → is_dr x i ≡ is_dr s i
  dr_all i = ⊎_elim (λ (h : i < n). dr_same i h) (λ (h : n ≤ i). dr_past i h) (cases_lt i n)

  -- ---- registers

  other_rp_same : (g : ℕ) → has_other_rp x g ≡ has_other_rp s g
  unfolding has_other_rp rp_of
  other_rp_same g = go (rp_of s g) refl
    where
      go : (o : Option ℕ) → rp_of s g ≡ o
          → option_map_or (λ rp. not (is_own x rp)) o false ≡ option_map_or (λ rp. not (is_own s rp)) o false
      go None e = refl
      go (Some rp) e = ap not (own_same rp (alike.rps g rp e))

  register_same : (g src : ℕ) → Stays src → could_register x g src ≡ could_register s g src
  unfolding could_register is_kept_alive
  register_same g src free =
      λ j. option_map_or (λ (p : Path). p.is_connected && dr_all p.iface.number j) (route_same src free j) false
      && is_kept_alive s g src && other_rp_same g j

  -- ---- no fact is of a new address

  abbrev is_new : Key → Bool
  is_new k = differs (source_in k)

  two : (xs ys : List Key) → list_any is_new (xs ++ ys) ≡ false
      → (list_any is_new xs ≡ false) × (list_any is_new ys ≡ false)
  two xs ys e = go (list_any is_new xs) (list_any is_new ys) (sym (list_any-append is_new xs ys) ∙ e)
    where
      go : (a b : Bool) → (a || b) ≡ false → (a ≡ false) × (b ≡ false)
      go true b e = cc
      go false b e = (refl, e)

  free_step : {R : Type 0} (r : Key × R) (t : Table R) (b : Bool) → is_new r.0 ≡ b
      → (b || list_any is_new (keys_in t)) ≡ false
      → (list_any is_new (keys_in t) ≡ false → AllByRecursion (λ (e : Key × R). is_new e.0 ≡ false) t)
      → AllByRecursion (λ (e : Key × R). is_new e.0 ≡ false) (r ∷ t)
  free_step r t true is e later = cc
  free_step r t false is e later = (is, later e)

  each_free : {R : Type 0} (t : Table R) → list_any is_new (keys_in t) ≡ false
      → AllByRecursion (λ (e : Key × R). is_new e.0 ≡ false) t
  unfolding keys_in
  each_free [] e = tt
  each_free (r ∷ t) e = free_step r t (is_new r.0) refl e (each_free t)

  free_registers : list_any is_new (keys_in s.registers) ≡ false
  unfolding fact_keys
  free_registers = (two _ (keys_in s.registers) alike.sources).1

  free_but_registers : list_any is_new (keys_in s.group_records ++ keys_in s.source_records ++ keys_in s.group_repeats ++ keys_in s.source_repeats
      ++ keys_in s.sendings ++ keys_in s.downstream ++ keys_in s.asserts ++ keys_in s.join_timers
      ++ keys_in s.override_timers ++ keys_in s.sources) ≡ false
  unfolding fact_keys
  free_but_registers = (two _ (keys_in s.registers) alike.sources).0

  free_sources : list_any is_new (keys_in s.sources) ≡ false
  free_sources = (two _ (keys_in s.sources) free_but_registers).1

  free_asserts : list_any is_new (keys_in s.asserts) ≡ false
  free_asserts =
      let before_sources = (two _ (keys_in s.sources) free_but_registers).0 in
      let before_overrides = (two _ (keys_in s.override_timers) before_sources).0 in
      let before_joins = (two _ (keys_in s.join_timers) before_overrides).0 in
      (two _ (keys_in s.asserts) before_joins).1

  -- ---- what must go

  module _ (k : Key) (low : iface_in k < n) (free : is_new k ≡ false) where
    could_at_same : could_assert_at x k ≡ could_assert_at s k
    could_at_same =
        λ j. if is_star k then could_star_same (group_in k) (iface_in k) low j
        else could_same (group_in k) (source_in k) (stays (source_in k) free) (iface_in k) low j

    track_at_same : is_tracking_at x k ≡ is_tracking_at s k
    track_at_same =
        λ j. if is_star k then track_star_same (group_in k) (iface_in k) low j
        else track_same (group_in k) (source_in k) (stays (source_in k) free) (iface_in k) low j

    metric_at_same : my_metric_at x k ≡ my_metric_at s k
    metric_at_same =
        λ j. if is_star k then metric_star_same (group_in k) (iface_in k) low j
        else my_metric_same (group_in k) (source_in k) (stays (source_in k) free) (iface_in k) low j

    rpf_at_same : is_rpf_at x k ≡ is_rpf_at s k
    rpf_at_same =
        λ j. if is_star k then same_option (rpf_rp_same (group_in k) j) (Some (iface_in k))
        else same_option (rpf_same (group_in k) (source_in k) (stays (source_in k) free) j) (Some (iface_in k))

    must_same : (o : State) (r : AssertRow) → assert_must_go o x (k, r) ≡ assert_must_go o s (k, r)
    unfolding assert_must_go
    must_same o r =
        λ j. if is_winner (Some r) then not (could_at_same j)
        else (not (is_neighbour s (iface_in k) r.winner.address.bits) || not (track_at_same j)
        || is_better (metric_at_same j) r.winner || (is_rpf_at o k && not (rpf_at_same j)))

    opening_same : (r : AssertRow) → assert_must_go x s (k, r) ≡ assert_must_go s s (k, r)
    unfolding assert_must_go
    opening_same r =
        λ j. if is_winner (Some r) then not (could_assert_at s k)
        else (not (is_neighbour s (iface_in k) r.winner.address.bits) || not (is_tracking_at s k)
        || is_better (my_metric_at s k) r.winner || (rpf_at_same j && not (is_rpf_at s k)))

  abbrev Placed : Key × AssertRow → Type 0
  Placed e = (iface_in e.0 < n) × (is_new e.0 ≡ false)

  asserts_placed : AllByRecursion Placed s.asserts
  asserts_placed =
      each_both (λ e. is_up s (iface_in e.0) ≡ true) (λ e. is_new e.0 ≡ false) Placed
      (λ e up free. (ltb-true (iface_in e.0) n (are (iface_in e.0) up), free)) s.asserts
      (each_of_list (λ e. is_up s (iface_in e.0)) s.asserts tidy.asserts) (each_free s.asserts free_asserts)

  module _ (quiet : IsQuiet s) where
    swapped : {X : Type 0} (p q : X → Bool) (xs : List X) → AllByRecursion (λ e. p e ≡ q e) xs
        → list_all q xs ≡ true → list_all p xs ≡ true
    swapped p q xs same all =
        list_of_each p xs
        (each_both (λ e. p e ≡ q e) (λ e. q e ≡ true) (λ e. p e ≡ true) (λ e f g. f ∙ g) xs same (each_of_list q xs all))

    quiet_asserts : list_all (λ e. not (assert_must_go x x e)) s.asserts ≡ true
    quiet_asserts =
        swapped (λ e. not (assert_must_go x x e)) (λ e. not (assert_must_go s s e)) s.asserts
        (each_more Placed (λ e. not (assert_must_go x x e) ≡ not (assert_must_go s s e))
        (λ e p. ap not (must_same e.0 p.0 p.1 x e.1 ∙ opening_same e.0 p.0 p.1 e.1)) s.asserts asserts_placed)
        quiet.clear.asserts

    opened_asserts : list_all (λ e. not (assert_must_go s x e)) s.asserts ≡ true
    opened_asserts =
        swapped (λ e. not (assert_must_go s x e)) (λ e. not (assert_must_go s s e)) s.asserts
        (each_more Placed (λ e. not (assert_must_go s x e) ≡ not (assert_must_go s s e))
        (λ e p. ap not (must_same e.0 p.0 p.1 s e.1)) s.asserts asserts_placed)
        quiet.clear.asserts

    quiet_sources : list_all (λ e. not (spt_must_go x e)) s.sources ≡ true
    quiet_sources =
        swapped (λ e. not (spt_must_go x e)) (λ e. not (spt_must_go s e)) s.sources
        (each_more (λ (e : Key × SourceRow). is_new e.0 ≡ false) (λ e. not (spt_must_go x e) ≡ not (spt_must_go s e))
        (λ e free j. not ((e.1).spt && not (desired_same (group_in e.0) (source_in e.0) (stays (source_in e.0) free) j))) s.sources
        (each_free s.sources free_sources)) quiet.clear.sources

    settled_same : (k : Key) → is_new k ≡ false → is_register_settled x k ≡ is_register_settled s k
    settled_same k free = ap (λ (b : Bool). same_bool b (has_row s.registers k)) (register_same (group_in k) (source_in k) (stays (source_in k) free))

    quiet_more : IsQuiet x
    quiet_more = record {
      clear = record { asserts = quiet_asserts; sources = quiet_sources };
      sources_settled =
          swapped (λ e. is_register_settled x e.0) (λ e. is_register_settled s e.0) s.sources
          (each_more (λ (e : Key × SourceRow). is_new e.0 ≡ false)
          (λ e. is_register_settled x e.0 ≡ is_register_settled s e.0) (λ e free. settled_same e.0 free) s.sources
          (each_free s.sources free_sources)) quiet.sources_settled;
      registers_settled =
          swapped (λ e. is_register_settled x e.0) (λ e. is_register_settled s e.0) s.registers
          (each_more (λ (e : Key × RegisterRow). is_new e.0 ≡ false)
          (λ e. is_register_settled x e.0 ≡ is_register_settled s e.0) (λ e free. settled_same e.0 free) s.registers
          (each_free s.registers free_registers)) quiet.registers_settled;
    }

    -- ---- nothing follows

    none_registered : touched_registers (touching []) x ≡ x
    unfolding touched_registers touching
    none_registered = rw (none_left (λ k. touching [] k) (λ k. refl) (keys_in s.sources ++ keys_in s.registers)) refl

    registers_stay : settle_registers x ≡ x
    registers_stay =
        registers_of_touched (touching []) (touching_is_closed []) x quiet_more x (λ k e. refl) ∙ none_registered

    not_not : (b : Bool) → not b ≡ true → b ≡ false
    not_not true e = absurd cc
    not_not false e = refl

    filtered : {X : Type 0} (p : X → Bool) (xs : List X) → list_all (λ e. not (p e)) xs ≡ true → filter p xs ≡ []
    filtered p xs all =
        none_passing p xs (each_more (λ e. not (p e) ≡ true) (λ e. p e ≡ false) (λ e f. not_not (p e) f) xs
        (each_of_list (λ e. not (p e)) xs all))

    unfound : {X : Type 0} (p : X → Bool) (xs : List X) → AllByRecursion (λ e. p e ≡ false) xs → find p xs ≡ None
    unfound p [] h = refl
    unfound p (e ∷ xs) h = rw h.0 (unfound p xs h.1)

    none_to_clear : to_clear s x ≡ None
    unfolding to_clear assert_to_clear spt_to_clear first_by
    none_to_clear =
        rw (
          filtered (assert_must_go s x) s.asserts opened_asserts,
          unfound (spt_must_go x) s.sources
              (each_more (λ e. not (spt_must_go x e) ≡ true) (λ e. spt_must_go x e ≡ false)
              (λ e f. not_not (spt_must_go x e) f) s.sources (each_of_list (λ e. not (spt_must_go x e)) s.sources quiet_sources)),
        ) refl

    none_cleared : clear s x ≡ (x, [])
    unfolding clear clear_all
    none_cleared =
        (λ j. clear_all s (registers_stay j)) ∙ same_when_none (to_clear s) cleared (clearable_count x) x none_to_clear

    module _ (w : ℕ) where
      source_untold : (g src : ℕ) → Stays src → (t : State) → source_upstream s x w g t src ≡ (t, [])
      unfolding source_upstream
      source_untold g src free t =
          (λ j. (let old : SourceView = sym (source_view_same g src free) j in
          let now : SourceView = source_view x g src in
          let joining : Told = source_told x w g src old now in
          let pruning : Told = rpt_told x w g src old now in (
            with_override_timer (with_join_timer t (source_key 0 g src) joining.timer) (rpt_key 0 g src) pruning.timer,
            joining.messages ++ pruning.messages,
          )))
          ∙ source_untold_where_agreed g src x x w refl t

      star_untold : (g : ℕ) → star_told x w g (star_view s g) (star_view x g) ≡ nothing_told
      star_untold g =
          (λ j. star_told x w g (sym (star_view_same g) j) (star_view x g)) ∙ star_untold_where_agreed g x x w refl

      abbrev keys : List Key
      keys = fact_keys s ++ fact_keys x

      off_keys : list_any is_new keys ≡ false
      unfolding fact_keys
      off_keys = list_any-append is_new (fact_keys s) (fact_keys s) ∙ (λ j. alike.sources j || alike.sources j)

      off_sources : (g : ℕ) → list_any differs (sources_of g keys) ≡ false
      unfolding sources_of
      off_sources g =
          any_ascending differs (map source_in (filter (λ k. is_of_group g k && is_some k.source) keys))
          ∙ (any_of_map differs source_in (filter (λ k. is_of_group g k && is_some k.source) keys)
          ∙ go (list_any is_new (filter (λ k. is_of_group g k && is_some k.source) keys)) refl)
        where
          go : (b : Bool) → list_any is_new (filter (λ k. is_of_group g k && is_some k.source) keys) ≡ b → b ≡ false
          go true e =
              cc (any_of_filter (λ k. is_of_group g k && is_some k.source) is_new keys e, off_keys)
          go false e = refl

      any_none : {X : Type 0} (p : X → Bool) (xs : List X) → list_any p xs ≡ false → filter p xs ≡ []
      any_none p [] e = refl
      any_none p (y ∷ xs) e = go (p y) refl e (any_none p xs)
        where
          go : (b : Bool) → p y ≡ b → (b || list_any p xs) ≡ false → (list_any p xs ≡ false → filter p xs ≡ [])
              → cond b (y ∷ filter p xs) (filter p xs) ≡ []
          go true is f later = cc
          go false is f later = later f

      sources_untold : (g : ℕ) (t : State) → each_in_turn (source_upstream s x w g) t (sources_of g keys) ≡ (t, [])
      unfolding each_in_turn
      sources_untold g t =
          turns_filtered (source_upstream s x w g) differs (λ u src free. source_untold g src (stays src free) u)
          (sources_of g keys) t
          ∙ ap (each_in_turn (source_upstream s x w g) t) (any_none differs (sources_of g keys) (off_sources g))

      group_untold : (t : State) (g : ℕ) → group_upstream s x w keys t g ≡ (t, [])
      unfolding group_upstream with_join_timer
      group_untold t g =
          (λ j. (let star : Told = star_untold g j in
          let first : State = with_join_timer t (star_key 0 g) star.timer in
          let later : State × List Message = each_in_turn (source_upstream s x w g) first (sources_of g keys) in
          (later.0, star.messages ++ later.1)))
          ∙ sources_untold g t

      all_untold : upstream s x w ≡ (x, [])
      unfolding upstream each_in_turn
      all_untold =
          turns_filtered (group_upstream s x w keys) (λ g. false) (λ t g e. group_untold t g) (groups_of keys) x
          ∙ ap (each_in_turn (group_upstream s x w keys) x) (none_left (λ (g : ℕ). false) (λ g. refl) (groups_of keys))

      pub none_follows : (messages : List Message) → settled s (x, messages) w ≡ write_all x messages
      unfolding settled
      none_follows messages =
          (λ j. (let after : State × List Message = none_cleared j in
          let told : State × List Message = upstream s after.0 w in
          write_all told.0 (messages ++ after.1 ++ told.1)))
          ∙ ((λ j. write_all (all_untold j).0 (messages ++ [] ++ (all_untold j).1))
          ∙ (λ j. write_all x ((append-nil (messages ++ []) ∙ append-nil messages) j)))

-- ---- interfaces that are appended

front_says_same : (xs ys : List InterfaceConfig) (i : ℕ) → says_other (slice_get xs i) (slice_get (xs ++ ys) i) ≡ false
front_says_same [] ys i = refl
front_says_same (c ∷ xs) ys zero = same_is_not_other (Some c)
front_says_same (c ∷ xs) ys (suc i) = front_says_same xs ys i

or_false : (b c : Bool) → c ≡ false → (b || c) ≡ b
or_false true c e = refl
or_false false c e = e

same_itself : (b : Bool) → same_bool b b ≡ true
same_itself true = refl
same_itself false = refl

module _ (s : State) (more : Addressing) (new : AreNew s more) where
  both_in_turn : (p q r t : Bool) → (r || t) ≡ false → ((p || r) || (q || t)) ≡ (p || q)
  both_in_turn p q true t e = cc
  both_in_turn p q false true e = cc
  both_in_turn true q false false e = refl
  both_in_turn false q false false e = or_false q false refl

  own_front : (a : ℕ) → is_own_among more a ≡ false → is_own_among (appended s.configured more) a ≡ is_own_among s.configured a
  unfolding is_own_among
  own_front a free =
      (λ j. (list_any-append (λ (c : InterfaceConfig). c.address.bits == a) s.configured.interfaces more.interfaces j)
      || (list_any-append (λ (b : Addr). b.bits == a) s.configured.addresses more.addresses j))
      ∙ both_in_turn (list_any (λ (c : InterfaceConfig). c.address.bits == a) s.configured.interfaces)
      (list_any (λ (b : Addr). b.bits == a) s.configured.addresses) _ _ free

  none_moves : (k : Key) → is_own_among more (source_in k) ≡ false
      → is_moved s.configured (appended s.configured more) (source_in k) ≡ false
  none_moves k free =
      (λ j. not (same_bool (own_front (source_in k) free j) (is_own_among s.configured (source_in k))))
      ∙ ap not (same_itself (is_own_among s.configured (source_in k)))

  moved_among : (p q : Key → Bool) → ((k : Key) → p k ≡ false → q k ≡ false) → (keys : List Key)
      → list_any p keys ≡ false → list_any q keys ≡ false
  moved_among p q less [] e = refl
  moved_among p q less (k ∷ keys) e =
      moved_step (p k) (list_any p keys) (q k) (list_any q keys) (less k) (moved_among p q less keys) e
    where
      moved_step : (a b c d : Bool) → (a ≡ false → c ≡ false) → (b ≡ false → d ≡ false) → (a || b) ≡ false → (c || d) ≡ false
      moved_step true b c d f g e = cc
      moved_step false true c d f g e = cc
      moved_step false false c d f g e = rw (f refl, g refl) refl

  pub appended_alike : IsAlike s (appended s.configured more)
  appended_alike = record {
    longer = (let counted : length (s.configured.interfaces ++ more.interfaces) ≡ iface_count s + length more.interfaces = length-append s.configured.interfaces more.interfaces in omega (arith, counted));
    priority = λ i low. ap (λ (o : Option InterfaceConfig). option_map_or (λ (c : InterfaceConfig). c.priority) o 0) (slice_front s.configured.interfaces more.interfaces i low);
    address = λ i low. ap (λ (o : Option InterfaceConfig). option_map_or (λ (c : InterfaceConfig). c.address.bits) o 0) (slice_front s.configured.interfaces more.interfaces i low);
    link = λ i a low. ap (λ (o : Option InterfaceConfig). option_map_or (λ (c : InterfaceConfig). contains (subnet c) a) o false) (slice_front s.configured.interfaces more.interfaces i low);
    rps = λ g rp e. own_front rp (new.rps g rp e);
    sources = moved_among (λ k. is_own_among more (source_in k)) (λ k. is_moved s.configured (appended s.configured more) (source_in k)) none_moves (fact_keys s) new.sources;
  }

-- ---- a reload

module _ (s : State) (more : Addressing) (w : ℕ) where
  abbrev all : Addressing
  all = appended s.configured more

  none_gone : iface_count s - length all.interfaces ≡ 0
  none_gone = let counted : length all.interfaces ≡ iface_count s + length more.interfaces = length-append s.configured.interfaces more.interfaces in omega (arith, counted)

  none_removed : removals s (with_more s more) w ≡ []
  unfolding removals
  none_removed = ap (λ (m : ℕ). map (down_event w) (range_with_len (length all.interfaces) m)) none_gone

  none_tells : (i : ℕ) → tells_anew s all i ≡ false
  unfolding tells_anew iface_config
  none_tells i =
      ap (λ (b : Bool). is_up s i && b) (front_says_same s.configured.interfaces more.interfaces i) ∙ and_false (is_up s i)

  no_hello : hellos_anew s all ≡ []
  unfolding hellos_anew
  no_hello = ap (map Message.Hello) (none_left (tells_anew s all) none_tells (below (length all.interfaces)))

  is_longer : next_query_is_near s ≡ true → AllByRecursion (SameAt s all) s.asserts → under s (with_more s more) ≡ record s { configured = all }
  unfolding under settings_of config_of
  is_longer near kept =
      (λ i. rps_replaced (record s { configured = all; queriers = same_queriers s near i; asserts = same_asserts s all kept i }) s.ranges)
      ∙ same_ranges (record s { configured = all })

-- more interfaces leave the address of each that is up
front_address : (s : State) (more : Addressing) → AreConfigured s → (i : ℕ) → is_up s i ≡ true
    → address_among s.configured i ≡ address_among (appended s.configured more) i
front_address s more are i up =
    ap (λ (o : Option InterfaceConfig). option_map_or (λ (c : InterfaceConfig). c.address.bits) o 0)
    (sym (slice_front s.configured.interfaces more.interfaces i (ltb-true i (iface_count s) (are i up))))

kept_addresses : (s : State) (more : Addressing) → IsTidy s → AreConfigured s
    → AllByRecursion (SameAt s (appended s.configured more)) s.asserts
kept_addresses s more tidy are =
    each_more (λ (e : Key × AssertRow). is_up s (iface_in e.0) ≡ true) (SameAt s (appended s.configured more))
    (λ e up. front_address s more are (iface_in e.0) up)
    s.asserts (each_of_list (λ (e : Key × AssertRow). is_up s (iface_in e.0)) s.asserts tidy.asserts)

pub appended_move_nothing : AppendedMoveNothing
unfolding reload replaced ran sent_by write_all all_written each_in_turn
appended_move_nothing s more w h near are new =
    (λ j. (let gone : List Outcome × State = ran s (none_removed s more w j) in
    let after : State × List Emission = replaced gone.1 (with_more s more) w in
    (after.0, sent_by gone.0 ++ (goodbyes gone.1 (appended s.configured more) ++ after.1))))
    ∙ ((λ j. (let after : State × List Emission = settled s (is_longer s more w near (kept_addresses s more h.settled.tidy are) j, no_hello s more w j) w in
    (after.0, none_say s (appended s.configured more) (front_address s more are) j ++ after.1)))
    ∙ none_follows s (appended s.configured more) h.settled.tidy are (appended_alike s more new) h.quiet w [])

-- ---- other delays

module _ (s : State) (cs : Addressing) (same : map without_delays cs.interfaces ≡ map without_delays s.configured.interfaces)
    (own : cs.addresses ≡ s.configured.addresses) where
  bare_at : (i : ℕ) (xs : List InterfaceConfig) → slice_get (map without_delays xs) i ≡ option_map without_delays (slice_get xs i)
  bare_at i [] = refl
  bare_at zero (c ∷ xs) = refl
  bare_at (suc i) (c ∷ xs) = bare_at i xs

  at_same : (i : ℕ) → option_map without_delays (slice_get cs.interfaces i) ≡ option_map without_delays (slice_get s.configured.interfaces i)
  at_same i = sym (bare_at i cs.interfaces) ∙ (ap (λ (xs : List InterfaceConfig). slice_get xs i) same ∙ bare_at i s.configured.interfaces)

  -- a value that doesn't read delays
  value_bare : {X : Type 0} (f : InterfaceConfig → X) (d : X) → ((c : InterfaceConfig) → f (without_delays c) ≡ f c)
      → (o : Option InterfaceConfig) → option_map_or f (option_map without_delays o) d ≡ option_map_or f o d
  value_bare f d reads None = refl
  value_bare f d reads (Some c) = reads c

  value_same : {X : Type 0} (f : InterfaceConfig → X) (d : X) → ((c : InterfaceConfig) → f (without_delays c) ≡ f c)
      → (i : ℕ) → option_map_or f (slice_get cs.interfaces i) d ≡ option_map_or f (slice_get s.configured.interfaces i) d
  value_same f d reads i =
      sym (value_bare f d reads (slice_get cs.interfaces i))
      ∙ (ap (λ (o : Option InterfaceConfig). option_map_or f o d) (at_same i)
      ∙ value_bare f d reads (slice_get s.configured.interfaces i))

  any_bare : (a : ℕ) (xs : List InterfaceConfig)
      → list_any (λ (c : InterfaceConfig). c.address.bits == a) (map without_delays xs) ≡ list_any (λ (c : InterfaceConfig). c.address.bits == a) xs
  any_bare a [] = refl
  any_bare a (c ∷ xs) = ap (λ (b : Bool). (c.address.bits == a) || b) (any_bare a xs)

  own_bare : (a : ℕ) → is_own_among cs a ≡ is_own_among s.configured a
  unfolding is_own_among
  own_bare a =
      let of_interfaces = sym (any_bare a cs.interfaces)
      ∙ (ap (list_any (λ (c : InterfaceConfig). c.address.bits == a)) same ∙ any_bare a s.configured.interfaces) in
      λ j. of_interfaces j || list_any (λ (b : Addr). b.bits == a) (own j)

  length_bare : (xs : List InterfaceConfig) → length (map without_delays xs) ≡ length xs
  length_bare [] = refl
  length_bare (c ∷ xs) = ap suc (length_bare xs)

  same_length : length cs.interfaces ≡ length s.configured.interfaces
  same_length = sym (length_bare cs.interfaces) ∙ (ap (λ (xs : List InterfaceConfig). length xs) same ∙ length_bare s.configured.interfaces)

  none_own : (keys : List Key) → list_any (λ k. is_moved s.configured cs (source_in k)) keys ≡ false
  none_own [] = refl
  none_own (k ∷ keys) =
      rw ((λ j. not (same_bool (own_bare (source_in k) j) (is_own_among s.configured (source_in k))))
      ∙ ap not (same_itself (is_own_among s.configured (source_in k)))) (none_own keys)

  delays_alike : IsAlike s cs
  delays_alike = record {
    longer = (let counted = same_length in omega (arith, counted));
    priority = λ i low. value_same (λ c. c.priority) 0 (λ c. refl) i;
    address = λ i low. value_same (λ c. c.address.bits) 0 (λ c. refl) i;
    link = λ i a low. value_same (λ c. contains (subnet c) a) false (λ c. refl) i;
    rps = λ g rp e. own_bare rp;
    sources = none_own (fact_keys s);
  }

  module _ (w : ℕ) where
    no_fewer : iface_count s - length cs.interfaces ≡ 0
    no_fewer = let counted = same_length in omega (arith, counted)

    no_removal : removals s (with_addressing s cs) w ≡ []
    unfolding removals
    no_removal = ap (λ (m : ℕ). map (down_event w) (range_with_len (length cs.interfaces) m)) no_fewer

    each_address : (rows : Table AssertRow) → AllByRecursion (SameAt s cs) rows
    each_address [] = tt
    each_address (e ∷ rows) = (sym (value_same (λ c. c.address.bits) 0 (λ c. refl) (iface_in e.0)), each_address rows)

    is_delayed : next_query_is_near s ≡ true → under s (with_addressing s cs) ≡ record s { configured = cs }
    unfolding under settings_of config_of
    is_delayed near =
        (λ i. rps_replaced (record s { configured = cs; queriers = same_queriers s near i; asserts = same_asserts s cs (each_address s.asserts) i }) s.ranges)
        ∙ same_ranges (record s { configured = cs })

    pub delays_written : IsAtRest s → next_query_is_near s ≡ true → AreConfigured s
        → reload s (with_addressing s cs) w ≡ write_all (record s { configured = cs }) (hellos_anew s cs)
    unfolding reload replaced ran sent_by
    delays_written h near are =
        (λ j. (let gone : List Outcome × State = ran s (no_removal j) in
        let after : State × List Emission = replaced gone.1 (with_addressing s cs) w in
        (after.0, sent_by gone.0 ++ (goodbyes gone.1 cs ++ after.1))))
        ∙ ((λ j. (let after : State × List Emission = settled s (is_delayed near j, hellos_anew s cs) w in
        (after.0, none_say s cs (λ i up. sym (value_same (λ c. c.address.bits) 0 (λ c. refl) i)) j ++ after.1)))
        ∙ none_follows s cs h.settled.tidy are delays_alike h.quiet w (hellos_anew s cs))

pub delays_move_nothing : DelaysMoveNothing
delays_move_nothing s cs w same own h near are = delays_written s cs same own w h near are
