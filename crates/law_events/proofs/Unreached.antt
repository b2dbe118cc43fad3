-- A source of which nothing differs reads the same.
use Rattle.std.{proofs.Common.{◌≡◌, ℕ, Bool, true, false, map, Option, is_none, is_some, refl, sym, ap, ◌∙◌, eq-eqb, arith}, specs.Cmp.{first_so, second_so}}
use Rattle.pim_types.{specs.{declared.{fact.{DownstreamRow.DownstreamRow, Key.Key, NeighbourRow.NeighbourRow, SourceRow.SourceRow}, path.Path.Path}, Keys.{names_source, neighbour_key, rpt_key, source_key, star_key}}}
use Rattle.pim_model.{specs.{Neighbours.{is_dr, is_dr_among, is_neighbour, nbr, nbr_among}, Reach.{alike_where, agrees_for_source, keeps_neighbours, names_star}, Receivers.{is_exclude, is_exclude_among, local_receiver_include, local_receiver_include_among, source_record}, Rows.{same_assert, same_both, same_downstream, same_group_record, same_path, same_register, same_register_state, same_source, same_source_record}, Sets.{assert_source, assert_star, is_kept_alive, joins, joins_star, prunes, register_state, spt_bit, tunnel}, State.{State, address_among, value_among}, Tables.{Table, has_row, row_at, rows_on, same_option}, Unicast.{route, rp_of, rp_route}}}
use Rattle.law_events.{specs.{Scopes.{only_priority, scope}, Sees.SeesSource}, proofs.{SharedMacros.{is_dr_local, is_neighbour_local}, SameRows.flags, NamedSameRows.{alike_at, ends_none, flag_alike, hop_same, loser_same, metric_same, options, paths, priorities_same, states_alike, there_alike, winner_same}}}

-- ---- what all groups share

-- the configuration, and the neighbours with their priorities
pub record Around (s t : State) : Type 0 where
  pub settings : s.settings ≡ t.settings
  pub configured : s.configured ≡ t.configured
  pub priorities : map only_priority s.neighbours ≡ map only_priority t.neighbours

abbrev none : Key → Bool
none k = false

module _ (s t : State) (around : Around s t) where
  pub dr_around : (i : ℕ) → is_dr s i ≡ is_dr t i
  unfolding is_dr scope
  dr_around i =
      sym (is_dr_local none s i)
      ∙ ((λ j. is_dr_among (value_among (λ c. c.priority) (around.configured j) i)
      (address_among (around.configured j) i) (rows_on i (around.priorities j)))
      ∙ is_dr_local none t i)

  pub neighbour_around : (i address : ℕ) → is_neighbour s i address ≡ is_neighbour t i address
  unfolding scope
  neighbour_around i address =
      sym (is_neighbour_local none s i address)
      ∙ (ap (λ (rows : Table NeighbourRow). has_row rows (neighbour_key i address)) around.priorities
      ∙ is_neighbour_local none t i address)

  nbr_at : (p : Option Path) → nbr s p ≡ nbr t p
  unfolding nbr nbr_among
  nbr_at p = grind (arith, neighbour_around)

  pub nbr_around : (p q : Option Path) → p ≡ q → nbr s p ≡ nbr t q
  nbr_around p q e = nbr_at p ∙ ap (nbr t) e

pub around_kept : (s t : State) → s.settings ≡ t.settings → s.configured ≡ t.configured
    → keeps_neighbours s t ≡ true → Around s t
unfolding keeps_neighbours
around_kept s t settings configured kept = grind (arith, priorities_same)

-- ---- the rows of a source

module _ (g src : ℕ) where
  pub at_star : (i : ℕ) → names_star g (star_key i g) ≡ true
  at_star i = rw (eq-eqb g g refl) refl

  pub at_source : (i : ℕ) → names_source g src (source_key i g src) ≡ true
  unfolding names_source
  at_source i = rw (eq-eqb g g refl, eq-eqb src src refl) refl

  pub at_tree : (i : ℕ) → names_source g src (rpt_key i g src) ≡ true
  unfolding names_source
  at_tree i = rw (eq-eqb g g refl, eq-eqb src src refl) refl

  -- the parts of what is compared, at each key
  pub record Alike (s t : State) : Type 0 where
    pub record_at : (i : ℕ) → same_both same_source_record (source_record s g src i) (source_record t g src i) ≡ true
    pub fact : same_both same_source (row_at s.sources (source_key 0 g src)) (row_at t.sources (source_key 0 g src))
        ≡ true
    pub register : same_both same_register (row_at s.registers (source_key 0 g src))
        (row_at t.registers (source_key 0 g src)) ≡ true
    pub star_down : (i : ℕ)
        → same_both same_downstream (row_at s.downstream (star_key i g)) (row_at t.downstream (star_key i g)) ≡ true
    pub source_down : (i : ℕ)
        → same_both same_downstream (row_at s.downstream (source_key i g src))
        (row_at t.downstream (source_key i g src)) ≡ true
    pub tree_down : (i : ℕ)
        → same_both same_downstream (row_at s.downstream (rpt_key i g src)) (row_at t.downstream (rpt_key i g src))
        ≡ true
    pub star_assert : (i : ℕ) → same_both same_assert (assert_star s g i) (assert_star t g i) ≡ true
    pub source_assert : (i : ℕ) → same_both same_assert (assert_source s g src i) (assert_source t g src i) ≡ true
    pub excluding : is_exclude s g ≡ is_exclude t g
    pub included : local_receiver_include s g src ≡ local_receiver_include t g src
    pub path : route s src ≡ route t src
    pub rp : rp_of s g ≡ rp_of t g
    pub rp_path : rp_route s g ≡ rp_route t g

  -- of groups' records that are alike
  module _ (s t : State)
      (groups : (i : ℕ)
      → same_both same_group_record (row_at s.group_records (star_key i g)) (row_at t.group_records (star_key i g))
      ≡ true) where
    excludes_at : (i : ℕ) → is_exclude s g i ≡ is_exclude t g i
    unfolding is_exclude is_exclude_among
    excludes_at i = grind (arith, flag_alike, flags)

    includes_at : ((i : ℕ) → same_both same_source_record (source_record s g src i) (source_record t g src i) ≡ true)
        → (i : ℕ) → local_receiver_include s g src i ≡ local_receiver_include t g src i
    unfolding has_row is_exclude is_exclude_among local_receiver_include local_receiver_include_among
    includes_at records i = grind (arith, there_alike, excludes_at)

  pub alike : (s t : State) → agrees_for_source g src s t ≡ true → Alike s t
  unfolding agrees_for_source
  alike s t same =
      let e10 : _ = first_so _ (same_both same_path (rp_route s g) (rp_route t g)) same in
      let e9 : _ = first_so _ (same_option (rp_of s g) (rp_of t g)) e10 in
      let e8 : _ = first_so _ (same_both same_path (route s src) (route t src)) e9 in
      let e7 : _ = first_so _ (alike_where same_assert (names_star g) s.asserts t.asserts) e8 in
      let e6 : _ = first_so _ (alike_where same_downstream (names_star g) s.downstream t.downstream) e7 in
      let e5 : _ = first_so _ (alike_where same_group_record (names_star g) s.group_records t.group_records) e6 in
      let e4 : _ = first_so _ (alike_where same_register (names_source g src) s.registers t.registers) e5 in
      let e3 : _ = first_so _ (alike_where same_source (names_source g src) s.sources t.sources) e4 in
      let e2 : _ = first_so _ (alike_where same_assert (names_source g src) s.asserts t.asserts) e3 in
      let records : alike_where same_source_record (names_source g src) s.source_records t.source_records ≡ true =
      first_so _ (alike_where same_downstream (names_source g src) s.downstream t.downstream) e2 in
      let downs : alike_where same_downstream (names_source g src) s.downstream t.downstream ≡ true =
      second_so (alike_where same_source_record (names_source g src) s.source_records t.source_records) _ e2 in
      let record_at : _ =
      λ (i : ℕ). alike_at same_source_record (source_key i g src) (names_source g src) (at_source i)
      s.source_records t.source_records records in
      let group_at : _ =
      λ (i : ℕ). alike_at same_group_record (star_key i g) (names_star g) (at_star i) s.group_records
      t.group_records (second_so _ (alike_where same_group_record (names_star g) s.group_records t.group_records) e6) in
      record {
        record_at = record_at;
        source_down = λ i. alike_at same_downstream (source_key i g src) (names_source g src) (at_source i) s.downstream
            t.downstream downs;
        tree_down = λ i. alike_at same_downstream (rpt_key i g src) (names_source g src) (at_tree i) s.downstream
            t.downstream downs;
        source_assert = λ i. alike_at same_assert (source_key i g src) (names_source g src) (at_source i) s.asserts
            t.asserts (second_so _ (alike_where same_assert (names_source g src) s.asserts t.asserts) e3);
        fact = alike_at same_source (source_key 0 g src) (names_source g src) (at_source 0) s.sources t.sources
            (second_so _ (alike_where same_source (names_source g src) s.sources t.sources) e4);
        register = alike_at same_register (source_key 0 g src) (names_source g src) (at_source 0) s.registers
            t.registers (second_so _ (alike_where same_register (names_source g src) s.registers t.registers) e5);
        excluding = λ j i. excludes_at s t group_at i j;
        included = λ j i. includes_at s t group_at record_at i j;
        star_down = λ i. alike_at same_downstream (star_key i g) (names_star g) (at_star i) s.downstream t.downstream
            (second_so _ (alike_where same_downstream (names_star g) s.downstream t.downstream) e7);
        star_assert = λ i. alike_at same_assert (star_key i g) (names_star g) (at_star i) s.asserts t.asserts
            (second_so _ (alike_where same_assert (names_star g) s.asserts t.asserts) e8);
        path = paths (route s src) (route t src) (second_so _ (same_both same_path (route s src) (route t src)) e9);
        rp = options (rp_of s g) (rp_of t g) (second_so _ (same_option (rp_of s g) (rp_of t g)) e10);
        rp_path = paths (rp_route s g) (rp_route t g)
            (second_so _ (same_both same_path (rp_route s g) (rp_route t g)) same);
      }

  -- ---- what is read

  module _ (s t : State) (around : Around s t) (same : Alike s t) where
    pending_none : (a b : DownstreamRow) → same_downstream a b ≡ true → is_none a.pending ≡ is_none b.pending
    pending_none a b e = grind (arith, ends_none)

    kept_alike : (a b : SourceRow) → same_source a b ≡ true → is_some a.keepalive ≡ is_some b.keepalive
    kept_alike a b e = grind (arith, flags)

    pub kept_alive_same : is_kept_alive s g src ≡ is_kept_alive t g src
    unfolding is_kept_alive
    kept_alive_same = grind (arith, flag_alike, kept_alike)

    pub fact_same : has_row s.sources (source_key 0 g src) ≡ has_row t.sources (source_key 0 g src)
    unfolding has_row
    fact_same = grind (arith, there_alike)

    pub register_same : same_both same_register_state (register_state s g src) (register_state t g src) ≡ true
    register_same = grind (arith, states_alike)

    pub alike_sees : SeesSource g src s t
    unfolding joins_star joins prunes has_row spt_bit tunnel is_exclude is_exclude_among local_receiver_include local_receiver_include_among
    alike_sees =
        grind (arith, dr_around, neighbour_around, there_alike, loser_same, winner_same, hop_same, nbr_around, flag_alike, pending_none, metric_same)

pub unreached_sees : (g src : ℕ) (s t : State) → s.settings ≡ t.settings → s.configured ≡ t.configured
    → keeps_neighbours s t ≡ true → agrees_for_source g src s t ≡ true → SeesSource g src s t
unreached_sees g src s t settings configured kept same =
    alike_sees g src s t (around_kept s t settings configured kept) (alike g src s t same)
