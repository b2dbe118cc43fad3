use Rattle.std.{proofs.{lemmas.List.drop_all}}
use Rattle.pim_ifaces.{proofs.Around.{all_held, are_ordered}}
use Rattle.pim_ifaces.proofs.configured.Configured.new.Goals as goal

pub invariant_of-result : goal.invariant_of-result
invariant_of-result c =
    are_ordered c.args.configured.now c.loop-interface.interfaces.items c.owns_of.result.items c.in_order.result.items
    c.requires.apart
    (all_held c.loop-interface.interfaces.items c.args.configured.now _
    (drop_all c.loop-interface.interface-index c.args.configured.now c.loop-interface-test.false) c.loop-interface.invariant)
    c.owns_of.ensures c.in_order.ensures.all c.in_order.ensures.order
