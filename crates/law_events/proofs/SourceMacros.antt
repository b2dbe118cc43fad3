-- Each macro of a source, in a scope with the rows that it reads, is what it is in the state. Each line is the
-- macro's own body, with the laws of its parts in the place of the parts.
use Rattle.std.{proofs.Common.{◌≡◌, ℕ, Bool, true, false, not, ◌||◌, ◌&&◌, Option, is_none, is_some, map, option_map, refl, ap, sym, eq-eqb, ◌∙◌, arith}, specs.{List.list_any, Option.option_map_or}}
use Rattle.pim_model.{specs.{Records.is_at_group, Desires.{is_immediate_empty, is_inherited_empty, join_desired, prune_desired, rpf_rpt, rpf_source, tree_state, winner_hop}, Neighbours.nbr, Receivers.{is_exclude, local_receiver_exclude, local_receiver_exclude_among, local_receiver_include, local_receiver_include_among, source_record}, Sets.{assert_source, immediate_olist, inherited_olist, inherited_olist_rpt, is_beaten, is_better, is_empty, is_kept_alive, is_loser, is_register_join, is_winner, joins, lost_assert, lost_assert_rpt, pim_exclude, pim_include, prunes, route_metric, serves, spt_bit, spt_metric, tunnel, ◌∖◌, ◌∪◌}, State.{State, is_own, my_address}, Tables.{has_row, row_at, rows_where}, Unicast.route}}
use Rattle.pim_types.{specs.{declared.fact.{AssertMetric.AssertMetric, AssertRow.AssertRow, DownstreamRow.DownstreamRow, Key.Key, RegisterRow.RegisterRow, SourceRecordRow.SourceRecordRow, SourceRow.SourceRow}, Keys.{rpt_key, source_key, star_key}}}
use Rattle.law_events.{specs.Scopes.{is_mode_read, only_kind, only_running, scope, state_without_end}, proofs.{SharedMacros.{is_dr_local, nbr_local, route_local, rpf_interface_local, rpf_interface_rp_local}, Rows.{read_of_cut, row_at_cut, row_in_scope, row_shows, has_row_in_scope}, StarMacros.{has_record_local, is_exclude_local, seen_groups, seen_sources, join_desired_star_local, joins_star_local, lost_assert_star_local, pim_include_star_local, rpf_at, rpf_rp_at, rpf_star_local, serves_star_local, cut_assert, hop_cut, loser_cut, some_cut, winner_cut}}}
use Rattle.law_settled.{proofs.RowLaws.has_row_map}

none_cut : (o : Option ℕ) → is_none (only_running o) ≡ is_none o
none_cut o = grind arith

abbrev pub cut_source : SourceRecordRow → SourceRecordRow
cut_source r = record { end = only_running r.end }

abbrev has_no_end : SourceRecordRow → Bool
has_no_end r = is_none r.end

abbrev pub cut_kind : DownstreamRow → DownstreamRow
cut_kind r = record { expiry = only_running r.expiry; pending = only_running r.pending }

abbrev pub cut_kept : SourceRow → SourceRow
cut_kept r = record { keepalive = only_running r.keepalive; spt = r.spt }

abbrev pub cut_register : RegisterRow → RegisterRow
cut_register r = record { state = state_without_end r.state }

tunnel_cut : (o : Option RegisterRow)
    → is_register_join (option_map (λ (r : RegisterRow). r.state) (option_map cut_register o))
    ≡ is_register_join (option_map (λ (r : RegisterRow). r.state) o)
tunnel_cut o = grind arith

beaten_cut : (mine : AssertMetric) (o : Option AssertRow)
    → option_map_or (λ (r : AssertRow). is_better r.winner mine) (option_map cut_assert o) false
    ≡ option_map_or (λ (r : AssertRow). is_better r.winner mine) o false
beaten_cut mine o = grind arith

-- the rows of (*,G), of (S,G) and of (S,G,rpt) are seen
pub record ReadsSource (sees : Key → Bool) (g src : ℕ) : Type 0 where
  pub stars : (i : ℕ) → sees (star_key i g) ≡ true
  pub sources : (i : ℕ) → sees (source_key i g src) ≡ true
  pub trees : (i : ℕ) → sees (rpt_key i g src) ≡ true

module _ (sees : Key → Bool) (s : State) (g src : ℕ) (rows : ReadsSource sees g src) where
  -- ---- facts

  source_row_cut : row_at (scope sees s).sources (source_key 0 g src)
      ≡ option_map cut_kept (row_at s.sources (source_key 0 g src))
  unfolding scope
  source_row_cut =
      row_at_cut cut_kept (source_key 0 g src) (rows_where sees s.sources)
      ∙ ap (option_map cut_kept) (row_in_scope sees (source_key 0 g src) (rows.sources 0) s.sources)

  pub spt_bit_local : spt_bit (scope sees s) g src ≡ spt_bit s g src
  unfolding spt_bit
  spt_bit_local = grind (arith, source_row_cut, read_of_cut)

  pub is_kept_alive_local : is_kept_alive (scope sees s) g src ≡ is_kept_alive s g src
  unfolding is_kept_alive
  is_kept_alive_local = grind (arith, source_row_cut, read_of_cut, some_cut)

  tunnel_local : tunnel (scope sees s) g src ≡ tunnel s g src
  unfolding tunnel scope
  tunnel_local =
      (λ j. is_register_join (option_map (λ (r : RegisterRow). r.state)
      ((row_at_cut cut_register (source_key 0 g src) (rows_where sees s.registers)
      ∙ ap (option_map cut_register) (row_in_scope sees (source_key 0 g src) (rows.sources 0) s.registers)) j)))
      ∙ tunnel_cut (row_at s.registers (source_key 0 g src))

  pub joins_local : joins (scope sees s) g src ≡ joins s g src
  unfolding joins scope
  joins_local = grind (arith, has_row_map, has_row_in_scope)

  pub prunes_local : prunes (scope sees s) g src ≡ prunes s g src
  unfolding prunes scope
  prunes_local = λ j i. is_pruned_local i j
    where
      is_pruned_local : (i : ℕ) → option_map_or (λ (r : DownstreamRow). is_none r.pending)
          (row_at (map only_kind (rows_where sees s.downstream)) (rpt_key i g src)) false
          ≡ option_map_or (λ (r : DownstreamRow). is_none r.pending) (row_at s.downstream (rpt_key i g src)) false
      is_pruned_local i =
          ap (λ (o : Option DownstreamRow). option_map_or (λ (r : DownstreamRow). is_none r.pending) o false)
          (row_at_cut cut_kind (rpt_key i g src) (rows_where sees s.downstream)
          ∙ ap (option_map cut_kind) (row_in_scope sees (rpt_key i g src) (rows.trees i) s.downstream))
          ∙ read_of_cut cut_kind (λ (r : DownstreamRow). is_none r.pending) (λ r. none_cut r.pending)
          (row_at s.downstream (rpt_key i g src))

  assert_source_cut : assert_source (scope sees s) g src ≡ (λ i. option_map cut_assert (assert_source s g src i))
  unfolding scope
  assert_source_cut = λ j i.
      (row_at_cut cut_assert (source_key i g src) (rows_where sees s.asserts)
      ∙ ap (option_map cut_assert) (row_in_scope sees (source_key i g src) (rows.sources i) s.asserts)) j

  source_loser_local : (i : ℕ) → is_loser (assert_source (scope sees s) g src i) ≡ is_loser (assert_source s g src i)
  source_loser_local i = (λ j. is_loser (assert_source_cut j i)) ∙ loser_cut (assert_source s g src i)

  pub source_winner_local : (i : ℕ)
      → is_winner (assert_source (scope sees s) g src i) ≡ is_winner (assert_source s g src i)
  source_winner_local i = (λ j. is_winner (assert_source_cut j i)) ∙ winner_cut (assert_source s g src i)

  source_hop_local : (i : Option ℕ)
      → winner_hop i (assert_source (scope sees s) g src) ≡ winner_hop i (assert_source s g src)
  source_hop_local i = (λ j. winner_hop i (assert_source_cut j)) ∙ hop_cut i (assert_source s g src)

  is_listed_local : (i : ℕ) → is_some (source_record (scope sees s) g src i) ≡ is_some (source_record s g src i)
  unfolding scope has_row
  is_listed_local i = grind (arith, has_row_map, has_row_in_scope)

  is_excluded_local : (i : ℕ) → option_map_or has_no_end (source_record (scope sees s) g src i) false
      ≡ option_map_or has_no_end (source_record s g src i) false
  unfolding scope
  is_excluded_local i =
      ap (λ (o : Option SourceRecordRow). option_map_or has_no_end o false)
      (row_at_cut cut_source (source_key i g src) (rows_where sees s.source_records))
      ∙ read_of_cut cut_source has_no_end (λ r. none_cut r.end)
      (row_at (rows_where sees s.source_records) (source_key i g src))
      ∙ ap (λ (o : Option SourceRecordRow). option_map_or has_no_end o false)
      (row_in_scope sees (source_key i g src) (rows.sources i) s.source_records)

  -- a source that has no record has none in the scope, whether its group's is read or not
  unlisted : (i : ℕ) → is_mode_read (seen_groups sees s g rows.stars) (seen_sources sees s g rows.stars) (star_key i g) ≡ false
      → is_some (source_record (scope sees s) g src i) ≡ false
  unfolding is_mode_read scope
  unlisted i e = go (is_some (row_at (seen_sources sees s g rows.stars) (source_key i g src))) refl
    where
      second_none : (a b : Bool) → (a || b) ≡ false → b ≡ false
      second_none false b f = f
      second_none true b f = cc

      go : (b : Bool) → is_some (row_at (seen_sources sees s g rows.stars) (source_key i g src)) ≡ b → b ≡ false
      go false f = refl
      go true f =
          let some : list_any (λ x. is_at_group i g x.0) (seen_sources sees s g rows.stars) ≡ true =
          row_shows (is_at_group i g) (source_key i g src) (rw (eq-eqb i i refl, eq-eqb g g refl) refl)
          (seen_sources sees s g rows.stars) f in
          let none : list_any (λ x. is_at_group i g x.0) (seen_sources sees s g rows.stars) ≡ false =
          second_none _ (list_any (λ x. is_at_group i g x.0) (seen_sources sees s g rows.stars)) e in
          cc (some, none)

  pub local_include_local : local_receiver_include (scope sees s) g src ≡ local_receiver_include s g src
  unfolding is_exclude local_receiver_include local_receiver_include_among
  local_include_local = λ j i. at i j
    where
      none_then : (a b : Bool) → b ≡ false → (a && b) ≡ false
      none_then true b e = e
      none_then false b e = refl

      go : (i : ℕ) (b : Bool)
          → is_mode_read (seen_groups sees s g rows.stars) (seen_sources sees s g rows.stars) (star_key i g) ≡ b
          → ((has_row (scope sees s).group_records (star_key i g) && not (is_exclude (scope sees s) g i))
          && is_some (source_record (scope sees s) g src i))
          ≡ ((has_row s.group_records (star_key i g) && not (is_exclude s g i)) && is_some (source_record s g src i))
      go i true e =
          λ j. (has_record_local sees s g rows.stars i e j && not (is_exclude_local sees s g rows.stars j i))
          && is_listed_local i j
      go i false e =
          none_then (has_row (scope sees s).group_records (star_key i g) && not (is_exclude (scope sees s) g i)) _
          (unlisted i e)
          ∙ sym (none_then (has_row s.group_records (star_key i g) && not (is_exclude s g i)) _
          (sym (is_listed_local i) ∙ unlisted i e))

      at : (i : ℕ) → ((has_row (scope sees s).group_records (star_key i g) && not (is_exclude (scope sees s) g i))
          && is_some (source_record (scope sees s) g src i))
          ≡ ((has_row s.group_records (star_key i g) && not (is_exclude s g i)) && is_some (source_record s g src i))
      at i = go i _ refl

  local_exclude_local : local_receiver_exclude (scope sees s) g src ≡ local_receiver_exclude s g src
  unfolding is_exclude local_receiver_exclude local_receiver_exclude_among
  local_exclude_local = λ j i.
      is_exclude_local sees s g rows.stars j i && is_excluded_local i j

  -- ---- metrics and asserts

  pub spt_metric_local : (i : ℕ) → spt_metric (scope sees s) src i ≡ spt_metric s src i
  unfolding spt_metric scope
  spt_metric_local i = λ j. route_metric false (my_address s i) (is_own s src) (route_local sees s src j)

  beaten_local : (i : ℕ) → is_beaten (scope sees s) g src i ≡ is_beaten s g src i
  unfolding is_beaten
  beaten_local i =
      (λ j. option_map_or (λ (r : AssertRow). is_better r.winner (spt_metric_local i j)) (assert_source_cut j i) false)
      ∙ beaten_cut (spt_metric s src i) (assert_source s g src i)

  lost_assert_local : lost_assert (scope sees s) g src ≡ lost_assert s g src
  unfolding lost_assert
  lost_assert_local = grind (arith, rpf_at, source_loser_local, beaten_local)

  lost_assert_rpt_local : lost_assert_rpt (scope sees s) g src ≡ lost_assert_rpt s g src
  unfolding lost_assert_rpt
  lost_assert_rpt_local = grind (arith, rpf_rp_at, rpf_at, spt_bit_local, source_loser_local)

  serves_local : serves (scope sees s) g src ≡ serves s g src
  unfolding serves
  serves_local = λ j i. (is_dr_local sees s i j && not (lost_assert_local j i)) || source_winner_local i j

  pub pim_include_local : pim_include (scope sees s) g src ≡ pim_include s g src
  unfolding pim_include
  pim_include_local = λ j i. serves_local j i && local_include_local j i

  pub pim_exclude_local : pim_exclude (scope sees s) g src ≡ pim_exclude s g src
  unfolding pim_exclude
  pim_exclude_local = λ j i. serves_star_local sees s g rows.stars j i && local_exclude_local j i

  -- ---- lists of outgoing interfaces

  immediate_olist_local : immediate_olist (scope sees s) g src ≡ immediate_olist s g src
  unfolding immediate_olist
  immediate_olist_local = λ j. joins_local j ∪ pim_include_local j ∖ lost_assert_local j

  pub inherited_olist_rpt_local : inherited_olist_rpt (scope sees s) g src ≡ inherited_olist_rpt s g src
  unfolding inherited_olist_rpt
  inherited_olist_rpt_local =
      grind (arith, joins_star_local, prunes_local, pim_include_star_local, pim_exclude_local, lost_assert_star_local, lost_assert_rpt_local)

  pub inherited_olist_local : inherited_olist (scope sees s) g src ≡ inherited_olist s g src
  unfolding inherited_olist
  inherited_olist_local = λ j. inherited_olist_rpt_local j ∪ joins_local j ∪ pim_include_local j ∖ lost_assert_local j

  -- ---- desires and neighbours

  is_immediate_empty_local : is_immediate_empty (scope sees s) g src ≡ is_immediate_empty s g src
  unfolding is_immediate_empty is_empty scope
  is_immediate_empty_local = λ j. is_empty s (immediate_olist_local j) && not (tunnel_local j)

  is_inherited_empty_local : is_inherited_empty (scope sees s) g src ≡ is_inherited_empty s g src
  unfolding is_inherited_empty is_empty scope
  is_inherited_empty_local = λ j. is_empty s (inherited_olist_local j) && not (tunnel_local j)

  pub join_desired_local : join_desired (scope sees s) g src ≡ join_desired s g src
  unfolding join_desired
  join_desired_local = grind (arith, is_immediate_empty_local, is_kept_alive_local, is_inherited_empty_local)

  pub nbr_route_local : nbr (scope sees s) (route (scope sees s) src) ≡ nbr s (route s src)
  nbr_route_local = nbr_local sees s (route (scope sees s) src) ∙ ap (nbr s) (route_local sees s src)

  pub rpf_source_local : rpf_source (scope sees s) g src ≡ rpf_source s g src
  unfolding rpf_source
  rpf_source_local = grind (arith, rpf_interface_local, source_hop_local, nbr_route_local)

  pub rpf_rpt_local : rpf_rpt (scope sees s) g src ≡ rpf_rpt s g src
  unfolding rpf_rpt
  rpf_rpt_local = grind (arith, rpf_interface_rp_local, source_hop_local, rpf_star_local)

  prune_desired_local : prune_desired (scope sees s) g src ≡ prune_desired s g src
  unfolding prune_desired is_empty scope
  prune_desired_local =
      grind (arith, join_desired_star_local, inherited_olist_rpt_local, spt_bit_local, rpf_star_local, rpf_source_local)

  pub tree_state_local : tree_state (scope sees s) g src ≡ tree_state s g src
  unfolding tree_state
  tree_state_local = grind (arith, join_desired_star_local, prune_desired_local)
