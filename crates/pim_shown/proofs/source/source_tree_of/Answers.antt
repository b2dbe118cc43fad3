use Rattle.std.{proofs.Common.{ap, ◌∙◌}}
use Rattle.pim_ifset.{specs.Members.set_of}
use Rattle.pim_model.{specs.{Receivers.{local_receiver_exclude, local_receiver_include}, Sets.{assert_source, immediate_olist, inherited_olist, inherited_olist_rpt, is_winner, joins, lost_assert, lost_assert_rpt, pim_exclude, pim_include, prunes}}}
use Rattle.pim_shown.{specs.TreeMacros.source_tree}
use Rattle.pim_shown.proofs.source.source_tree_of.Goals as goal

pub returns : goal.returns
unfolding source_tree
returns c s h =
    let g = c.args.sight.now.star.group.bits in
    let src = c.args.sight.now.source.bits in
    let path = h.path in
    let neighbour = c.rpf_neighbour.ensures s h in
    let cause = c.source_cause.ensures s h in
    let neighbour_rpt = c.rpf_neighbour_rpt.ensures s h in
    let joined = c.told.ensures (joins s g src) (c.joins.ensures.interfaces s h) ∙ ap (set_of (joins s g src)) h.tunnel in
    let pruned = c.told-2.ensures (prunes s g src) (c.prunes.ensures s h) in
    let included = c.told-3.ensures (local_receiver_include s g src) (c.local_receiver_include.ensures s h) in
    let excluded = c.told-4.ensures (local_receiver_exclude s g src) (c.local_receiver_exclude.ensures s h) in
    let include = c.told-5.ensures (pim_include s g src) (c.pim_include.ensures s h) in
    let exclude = c.told-6.ensures (pim_exclude s g src) (c.pim_exclude.ensures s h) in
    let lost = c.told-7.ensures (lost_assert s g src) (c.lost_assert.ensures s h) in
    let lost_rpt = c.told-8.ensures (lost_assert_rpt s g src) (c.lost_assert_rpt.ensures s h) in
    let won = c.told-9.ensures (λ n. is_winner (assert_source s g src n)) h.won in
    let immediate =
    c.told-10.ensures (immediate_olist s g src) (c.immediate_olist.ensures.interfaces s h)
    ∙ ap (set_of (immediate_olist s g src)) h.tunnel in
    let inherited =
    c.told-11.ensures (inherited_olist s g src) (c.inherited_olist.ensures.interfaces s h)
    ∙ ap (set_of (inherited_olist s g src)) h.tunnel in
    let inherited_rpt = c.told-12.ensures (inherited_olist_rpt s g src) (c.inherited_olist_rpt.ensures s h) in
    let spt = h.spt in
    let alive = h.is_kept_alive in
    let desired = c.join_desired.ensures s h in
    let off = c.prune_desired.ensures s h in
    let state = c.tree_state.ensures s h in
    let registers = c.could_register.ensures s h in
    λ i. record {
      group = c.args.sight.now.star.group;
      source = c.args.sight.now.source;
      path = path i;
      rpf_neighbour = neighbour i;
      rpf_cause = cause i;
      rpf_neighbour_rpt = neighbour_rpt i;
      joins = joined i;
      prunes = pruned i;
      local_receiver_include = included i;
      local_receiver_exclude = excluded i;
      pim_include = include i;
      pim_exclude = exclude i;
      lost_assert = lost i;
      lost_assert_rpt = lost_rpt i;
      won_assert = won i;
      immediate_olist = immediate i;
      inherited_olist = inherited i;
      inherited_olist_rpt = inherited_rpt i;
      spt_bit = spt i;
      is_kept_alive = alive i;
      join_desired = desired i;
      prune_desired = off i;
      tree_state = state i;
      could_register = registers i;
    }
