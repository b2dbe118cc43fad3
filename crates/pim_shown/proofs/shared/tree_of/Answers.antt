use Rattle.pim_model.{specs.{Receivers.local_receiver_star, Sets.{assert_star, immediate_olist_star, is_winner, joins_star, lost_assert_star, pim_include_star}, Unicast.rp_of}}
use Rattle.pim_shown.{specs.TreeMacros.tree, proofs.Addresses.by_bits}
use Rattle.pim_shown.proofs.shared.tree_of.Goals as goal

pub returns : goal.returns
unfolding tree
returns c s h =
    let g = c.args.star.now.group.bits in
    let rp = by_bits c.args.star.now.rp (rp_of s g) h.rp in
    let rp_path = h.rp_path in
    let neighbour = c.rpf_neighbour.ensures s h in
    let cause = c.star_cause.ensures s h in
    let joins = c.told.ensures (joins_star s g) (c.joins.ensures s h) in
    let receivers = c.told-2.ensures (local_receiver_star s g) (c.local_receiver_include.ensures s h) in
    let include = c.told-3.ensures (pim_include_star s g) (c.pim_include.ensures s h) in
    let lost = c.told-4.ensures (lost_assert_star s g) (c.lost_assert.ensures s h) in
    let won = c.told-5.ensures (λ n. is_winner (assert_star s g n)) h.won in
    let olist = c.told-6.ensures (immediate_olist_star s g) (c.immediate_olist.ensures s h) in
    let desired = c.join_desired.ensures s h in
    λ i. record {
      group = c.args.star.now.group;
      rp = rp i;
      rp_path = rp_path i;
      rpf_neighbour = neighbour i;
      rpf_cause = cause i;
      joins = joins i;
      local_receiver_include = receivers i;
      pim_include = include i;
      lost_assert = lost i;
      won_assert = won i;
      immediate_olist = olist i;
      join_desired = desired i;
    }
