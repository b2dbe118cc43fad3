-- Each macro of (*,G), in a scope with the rows of (*,G), is what it is in the state. Each line is the macro's own
-- body,
-- with the laws of its parts in the place of the parts.
use Rattle.std.{proofs.Common.{◌≡◌, ℕ, Bool, true, false, not, ◌||◌, ◌&&◌, Option, Some, is_some, map, option_map, refl, ap, sym, ◌∙◌, arith}, specs.Option.option_map_or}
use Rattle.pim_types.{specs.{declared.fact.{AssertRow.AssertRow, GroupRecordRow.GroupRecordRow, Key.Key, SourceRecordRow.SourceRecordRow}, Keys.star_key}}
use Rattle.pim_model.{specs.{Desires.{join_desired_star, rpf_star, winner_hop}, Neighbours.nbr, Receivers.{is_exclude, is_exclude_among}, Sets.{assert_star, immediate_olist_star, is_empty, is_loser, is_winner, joins_star, lost_assert_star, pim_include_star, serves_star, ◌∖◌, ◌∪◌}, State.State, Tables.{Table, has_row, row_at, rows_where, same_option}, Unicast.{is_rpf_interface, is_rpf_interface_rp, rp_route}}}
use Rattle.law_events.{specs.Scopes.{is_mode_read, modes_read, only_mode, only_running, only_side, scope}, proofs.{SharedMacros.{is_dr_local, nbr_local, rp_route_local, rpf_interface_local, rpf_interface_rp_local}, Rows.{read_of_cut, row_at_cut, row_in_scope, row_out_of_scope, has_row_in_scope}}}
use Rattle.law_settled.{proofs.RowLaws.has_row_map}

module _ (sees : Key → Bool) (s : State) where
  pub rpf_at : (address : ℕ) (i : ℕ) → is_rpf_interface (scope sees s) address i ≡ is_rpf_interface s address i
  rpf_at address i = λ j. same_option (rpf_interface_local sees s address j) (Some i)

  pub rpf_rp_at : (g i : ℕ) → is_rpf_interface_rp (scope sees s) g i ≡ is_rpf_interface_rp s g i
  rpf_rp_at g i = λ j. same_option (rpf_interface_rp_local sees s g j) (Some i)

-- ---- ends that are cut down

pub some_cut : (o : Option ℕ) → is_some (only_running o) ≡ is_some o
some_cut o = grind arith

abbrev pub cut_group : GroupRecordRow → GroupRecordRow
cut_group r = record { end = only_running r.end }

abbrev has_end : GroupRecordRow → Bool
has_end r = is_some r.end

first_none : (a b : Bool) → (a || b) ≡ false → a ≡ false
first_none false b e = refl
first_none true b e = e

excluded_is_read : (groups : Table GroupRecordRow) (sources : Table SourceRecordRow) (k : Key)
    → is_mode_read groups sources k ≡ false → option_map_or has_end (row_at groups k) false ≡ false
unfolding is_mode_read
excluded_is_read groups sources k e = first_none (option_map_or has_end (row_at groups k) false) _ e

-- whether a group is in EXCLUDE is read
mode_is_read : (groups : Table GroupRecordRow) (sources : Table SourceRecordRow) (k : Key)
    → option_map_or has_end (row_at (modes_read groups sources) k) false ≡ option_map_or has_end (row_at groups k) false
mode_is_read groups sources k = go (is_mode_read groups sources k) refl
  where
    go : (b : Bool) → is_mode_read groups sources k ≡ b
        → option_map_or has_end (row_at (modes_read groups sources) k) false
        ≡ option_map_or has_end (row_at groups k) false
    go true e =
        ap (λ (o : Option GroupRecordRow). option_map_or has_end o false)
        (row_in_scope (is_mode_read groups sources) k e groups)
    go false e =
        ap (λ (o : Option GroupRecordRow). option_map_or has_end o false)
        (row_out_of_scope (is_mode_read groups sources) k e groups)
        ∙ sym (excluded_is_read groups sources k e)

-- an assert without its end: what is read of it is its role and its winner
abbrev pub cut_assert : AssertRow → AssertRow
cut_assert r = record r { end = 0 }

pub loser_cut : (o : Option AssertRow) → is_loser (option_map cut_assert o) ≡ is_loser o
loser_cut o = grind arith

pub winner_cut : (o : Option AssertRow) → is_winner (option_map cut_assert o) ≡ is_winner o
winner_cut o = grind arith

pub hop_cut : (i : Option ℕ) (row : ℕ → Option AssertRow)
    → winner_hop i (λ n. option_map cut_assert (row n)) ≡ winner_hop i row
hop_cut i row = grind arith

-- ---- facts

module _ (sees : Key → Bool) (s : State) (g : ℕ) (stars : (i : ℕ) → sees (star_key i g) ≡ true) where
  pub joins_star_local : joins_star (scope sees s) g ≡ joins_star s g
  unfolding joins_star scope
  joins_star_local = grind (arith, has_row_map, has_row_in_scope)

  assert_star_cut : assert_star (scope sees s) g ≡ (λ i. option_map cut_assert (assert_star s g i))
  unfolding scope
  assert_star_cut = λ j i.
      (row_at_cut cut_assert (star_key i g) (rows_where sees s.asserts)
      ∙ ap (option_map cut_assert) (row_in_scope sees (star_key i g) (stars i) s.asserts)) j

  star_loser_local : (i : ℕ) → is_loser (assert_star (scope sees s) g i) ≡ is_loser (assert_star s g i)
  star_loser_local i = (λ j. is_loser (assert_star_cut j i)) ∙ loser_cut (assert_star s g i)

  pub star_winner_local : (i : ℕ) → is_winner (assert_star (scope sees s) g i) ≡ is_winner (assert_star s g i)
  star_winner_local i = (λ j. is_winner (assert_star_cut j i)) ∙ winner_cut (assert_star s g i)

  star_hop_local : (i : Option ℕ) → winner_hop i (assert_star (scope sees s) g) ≡ winner_hop i (assert_star s g)
  star_hop_local i = (λ j. winner_hop i (assert_star_cut j)) ∙ hop_cut i (assert_star s g)

  -- the records of groups and of sources that are seen
  abbrev pub seen_groups : Table GroupRecordRow
  seen_groups = map only_mode (rows_where sees s.group_records)

  abbrev pub seen_sources : Table SourceRecordRow
  seen_sources = map only_side (rows_where sees s.source_records)

  pub is_exclude_local : is_exclude (scope sees s) g ≡ is_exclude s g
  unfolding is_exclude is_exclude_among scope
  is_exclude_local =
      λ j i. (mode_is_read seen_groups seen_sources (star_key i g)
      ∙ ap (λ (o : Option GroupRecordRow). option_map_or has_end o false)
      (row_at_cut cut_group (star_key i g) (rows_where sees s.group_records))
      ∙ read_of_cut cut_group has_end (λ r. some_cut r.end) (row_at (rows_where sees s.group_records) (star_key i g))
      ∙ ap (λ (o : Option GroupRecordRow). option_map_or has_end o false)
      (row_in_scope sees (star_key i g) (stars i) s.group_records)) j

  -- whether there is one, where it is read
  pub has_record_local : (i : ℕ) → is_mode_read seen_groups seen_sources (star_key i g) ≡ true
      → has_row (scope sees s).group_records (star_key i g) ≡ has_row s.group_records (star_key i g)
  unfolding scope
  has_record_local i read =
      has_row_in_scope (is_mode_read seen_groups seen_sources) (star_key i g) read seen_groups
      ∙ has_row_map (star_key i g) only_mode (λ e. refl) (rows_where sees s.group_records)
      ∙ has_row_in_scope sees (star_key i g) (stars i) s.group_records

  -- ---- (*,G)

  pub lost_assert_star_local : lost_assert_star (scope sees s) g ≡ lost_assert_star s g
  unfolding lost_assert_star
  lost_assert_star_local = λ j i. not (rpf_rp_at sees s g i j) && star_loser_local i j

  pub serves_star_local : serves_star (scope sees s) g ≡ serves_star s g
  unfolding serves_star
  serves_star_local = grind (arith, is_dr_local, lost_assert_star_local, star_winner_local)

  pub pim_include_star_local : pim_include_star (scope sees s) g ≡ pim_include_star s g
  unfolding pim_include_star
  pim_include_star_local = λ j i. serves_star_local j i && is_exclude_local j i

  immediate_olist_star_local : immediate_olist_star (scope sees s) g ≡ immediate_olist_star s g
  unfolding immediate_olist_star
  immediate_olist_star_local = λ j. joins_star_local j ∪ pim_include_star_local j ∖ lost_assert_star_local j

  pub join_desired_star_local : join_desired_star (scope sees s) g ≡ join_desired_star s g
  unfolding join_desired_star is_empty scope
  join_desired_star_local = λ j. not (is_empty s (immediate_olist_star_local j))

  pub nbr_rp_local : nbr (scope sees s) (rp_route (scope sees s) g) ≡ nbr s (rp_route s g)
  nbr_rp_local = nbr_local sees s (rp_route (scope sees s) g) ∙ ap (nbr s) (rp_route_local sees s g)

  pub rpf_star_local : rpf_star (scope sees s) g ≡ rpf_star s g
  unfolding rpf_star
  rpf_star_local = grind (arith, rpf_interface_rp_local, star_hop_local, nbr_rp_local)
