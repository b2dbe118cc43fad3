use Rattle.std.{proofs.Common.{sym, ◌∙◌}}
use Rattle.pim_data.{proofs.Lists.{on_shared_tree, on_source_tree}}
use Rattle.pim_data.proofs.list.choose_list.Goals as goal

pub returns-then-sight-clause-list : goal.returns-then-sight-clause-list
returns-then-sight-clause-list c =
    let s = c.args.world.now in
    let h = c.requires.sight in
    rw (on_source_tree s c.args.sight.now.star.group.bits c.args.sight.now.source.bits c.args.iface.number
    (sym (c.is_rpf_interface.ensures s h) ∙ c.if-is_rpf_interface.true) (sym h.spt ∙ c.if-sight.true))
    (record {
      interfaces = c.inherited_olist.ensures.interfaces s h;
      tunnel = c.inherited_olist.ensures.tunnel s h;
    })

pub returns-then-not-sight-clause-list : goal.returns-then-not-sight-clause-list
returns-then-not-sight-clause-list c =
    let s = c.args.world.now in
    let h = c.requires.sight in
    rw (on_shared_tree s c.args.sight.now.star.group.bits c.args.sight.now.source.bits c.args.iface.number
    (sym (c.is_rpf_interface-2.ensures s h.star) ∙ c.if-is_rpf_interface-2.true) (sym h.spt ∙ c.if-not-sight.true))
    (record {
      interfaces = λ i. c.without_tunnel-list.ensures.interfaces i ∙ c.inherited_olist_rpt.ensures s h i;
      tunnel = c.without_tunnel-list.ensures.tunnel;
    })
