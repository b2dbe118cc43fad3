-- Where a source sees the same, its answers are the same.
use Rattle.std.{proofs.Common.{◌≡◌, ℕ, false, not, ◌&&◌, ◌||◌, Option, is_some, arith}, specs.Option.option_map_or}
use Rattle.pim_types.{specs.{declared.fact.AssertRow.AssertRow, Keys.{source_key, star_key}}}
use Rattle.pim_model.{specs.{Cache.{answers, is_contested, may_register}, Desires.join_desired, Forwarding.{has_local_receivers, is_spt_reached}, Registers.is_spt_wanted, Sets.{is_loser, is_winner}, State.State, Tables.has_row}}
use Rattle.law_events.{specs.Sees.{SeesSource, SeesStar}, proofs.SameMacros.{could_assert_same, could_assert_star_same, has_other_rp_same, immediate_olist_same, inherited_olist_rpt_same, inherited_olist_same, is_connected_same, is_empty_same, is_inherited_empty_same, pim_exclude_same, pim_include_same, pim_include_star_same, rpf_at_same, rpf_interface_rp_same, rpf_interface_same, rpf_source_same, rpf_star_same}}

-- a row is that of a loser or of a winner
pub row_has_role : (o : Option AssertRow) → is_some o ≡ (is_loser o || is_winner o)
row_has_role o = grind arith

module _ (g src : ℕ) (s t : State) (sees : SeesSource g src s t) where
  abbrev star : SeesStar g s t
  star = sees.star

  star_rows_same : (i : ℕ) → has_row s.asserts (star_key i g) ≡ has_row t.asserts (star_key i g)
  unfolding has_row
  star_rows_same i = grind (arith, row_has_role)

  source_rows_same : (i : ℕ) → has_row s.asserts (source_key i g src) ≡ has_row t.asserts (source_key i g src)
  unfolding has_row
  source_rows_same i = grind (arith, row_has_role)

  pub contested_same : is_contested s g src ≡ is_contested t g src
  unfolding is_contested
  contested_same =
      grind (arith, inherited_olist_same, could_assert_same, source_rows_same, inherited_olist_rpt_same, could_assert_star_same, star_rows_same)

  pub may_register_same : may_register s g src ≡ may_register t g src
  unfolding may_register
  may_register_same = grind (arith, has_other_rp_same)

  pub watches_same : (has_local_receivers s g src && is_spt_wanted s) ≡ (has_local_receivers t g src && is_spt_wanted t)
  unfolding has_local_receivers
  watches_same = grind (arith, is_empty_same, pim_include_star_same, pim_exclude_same, pim_include_same)

  module _ (desired : join_desired s g src ≡ join_desired t g src) where
    pub reached_same : is_spt_reached s g src ≡ is_spt_reached t g src
    unfolding is_spt_reached
    reached_same =
        grind (arith, rpf_at_same, is_connected_same, rpf_interface_same, rpf_interface_rp_same, is_empty_same, inherited_olist_rpt_same, rpf_source_same, rpf_star_same)

    pub answers_same : has_row s.registers (source_key 0 g src) ≡ has_row t.registers (source_key 0 g src)
        → answers s g src ≡ answers t g src
    unfolding answers
    answers_same registered = λ j. record {
      immediate = immediate_olist_same g src s t sees j;
      inherited = inherited_olist_same g src s t sees j;
      inherited_rpt = inherited_olist_rpt_same g src s t sees j;
      has_tunnel = sees.to_rp j;
      rpf = rpf_interface_same g src s t sees j;
      rp_rpf = rpf_interface_rp_same g s t star j;
      spt = sees.spt j;
      connected = is_connected_same g src s t sees j;
      may_register = may_register_same j;
      registered = registered j;
      desired = desired j;
      flows = not (is_inherited_empty_same g src s t sees j);
      reaches = option_map_or (reached_same j) (rpf_interface_same g src s t sees j) false;
      watches = watches_same j;
      contested = contested_same j;
    }
