-- What the macros answer of a source: two states in which they answer the same.
use Rattle.std.{specs.Prelude.{nat_lt, true, ℕ, ◌≡◌}}
use Rattle.pim_model.{specs.{AssertMacros.{could_assert, could_assert_star, is_tracking_desired, is_tracking_desired_star, my_metric, my_metric_star}, Cache.may_register, Desires.{is_immediate_empty, is_inherited_empty, join_desired, join_desired_star, prune_desired, rpf_rpt, rpf_source, rpf_star, tree_state}, Forwarding.has_local_receivers, Limits.most_ifaces, Registers.could_register, Rows.{same_both, same_register_state}, Sets.{assert_source, assert_star, immediate_olist, immediate_olist_star, inherited_olist, inherited_olist_rpt, is_loser, is_winner, joins, joins_star, lost_assert, lost_assert_rpt, lost_assert_star, pim_exclude, pim_include, pim_include_star, prunes, register_state, rpt_metric, spt_bit, spt_metric, tunnel}, State.State, Unicast.{is_connected, route, rp_of, rp_route, rpf_interface, rpf_interface_rp}}}

-- The sets, the asserts and the macros of the assert machines are the same on an interface.
pub record KeepsAt (g src : ℕ) (o a : State) (i : ℕ) : Type 0 where
  pub joins_star : joins_star o g i ≡ joins_star a g i
  pub joins : joins o g src i ≡ joins a g src i
  pub prunes : prunes o g src i ≡ prunes a g src i
  pub lost_assert_star : lost_assert_star o g i ≡ lost_assert_star a g i
  pub lost_assert : lost_assert o g src i ≡ lost_assert a g src i
  pub lost_assert_rpt : lost_assert_rpt o g src i ≡ lost_assert_rpt a g src i
  pub pim_include_star : pim_include_star o g i ≡ pim_include_star a g i
  pub pim_include : pim_include o g src i ≡ pim_include a g src i
  pub pim_exclude : pim_exclude o g src i ≡ pim_exclude a g src i
  pub immediate_olist_star : immediate_olist_star o g i ≡ immediate_olist_star a g i
  pub immediate_olist : immediate_olist o g src i ≡ immediate_olist a g src i
  pub inherited_olist_rpt : inherited_olist_rpt o g src i ≡ inherited_olist_rpt a g src i
  pub inherited_olist : inherited_olist o g src i ≡ inherited_olist a g src i
  pub is_loser_star : is_loser (assert_star o g i) ≡ is_loser (assert_star a g i)
  pub is_winner_star : is_winner (assert_star o g i) ≡ is_winner (assert_star a g i)
  pub is_loser : is_loser (assert_source o g src i) ≡ is_loser (assert_source a g src i)
  pub is_winner : is_winner (assert_source o g src i) ≡ is_winner (assert_source a g src i)
  pub rpt_metric : rpt_metric o g i ≡ rpt_metric a g i
  pub spt_metric : spt_metric o src i ≡ spt_metric a src i
  pub could_assert_star : could_assert_star o g i ≡ could_assert_star a g i
  pub could_assert : could_assert o g src i ≡ could_assert a g src i
  pub is_tracking_star : is_tracking_desired_star o g i ≡ is_tracking_desired_star a g i
  pub is_tracking : is_tracking_desired o g src i ≡ is_tracking_desired a g src i
  pub my_metric_star : my_metric_star o g i ≡ my_metric_star a g i
  pub my_metric : my_metric o g src i ≡ my_metric a g src i

-- The macros about (S,G) say the same in two states.
pub record KeepsAnswers (g src : ℕ) (o a : State) : Type 0 where
  -- unicast
  pub route : route o src ≡ route a src
  pub rp : rp_of o g ≡ rp_of a g
  pub rp_route : rp_route o g ≡ rp_route a g
  pub is_connected : is_connected o src ≡ is_connected a src
  pub rpf_interface : rpf_interface o src ≡ rpf_interface a src
  pub rpf_interface_rp : rpf_interface_rp o g ≡ rpf_interface_rp a g
  -- facts
  pub spt : spt_bit o g src ≡ spt_bit a g src
  pub may_register : may_register o g src ≡ may_register a g src
  pub could_register : could_register o g src ≡ could_register a g src
  pub register : same_both same_register_state (register_state o g src) (register_state a g src) ≡ true
  pub tunnel : tunnel o g src ≡ tunnel a g src
  -- desires and upstream neighbours
  pub is_immediate_empty : is_immediate_empty o g src ≡ is_immediate_empty a g src
  pub is_inherited_empty : is_inherited_empty o g src ≡ is_inherited_empty a g src
  pub has_local_receivers : has_local_receivers o g src ≡ has_local_receivers a g src
  pub join_desired_star : join_desired_star o g ≡ join_desired_star a g
  pub join_desired : join_desired o g src ≡ join_desired a g src
  pub prune_desired : prune_desired o g src ≡ prune_desired a g src
  pub tree_state : tree_state o g src ≡ tree_state a g src
  pub rpf_star : rpf_star o g ≡ rpf_star a g
  pub rpf_source : rpf_source o g src ≡ rpf_source a g src
  pub rpf_rpt : rpf_rpt o g src ≡ rpf_rpt a g src
  -- The answers are the same on each interface that can be configured.
  pub on : (i : ℕ) → nat_lt i most_ifaces ≡ true → KeepsAt g src o a i
