use Rattle.pim_model.{specs.Hellos.is_lost_to}
use Rattle.law_settled.{proofs.FoundRows.{all_found, found, passed}}
use Rattle.pim_hello.proofs.restarted.asserts_lost_to.Goals as goal

pub loop-key-preserved-in-Continue-1 : goal.loop-key-preserved-in-Continue-1
loop-key-preserved-in-Continue-1 c =
    found (is_lost_to c.args.neighbour.iface.number c.args.neighbour.address.bits) _ c.loop-key.keys.items
    c.push.new.self.items (c.in-Some.key.now, c.in-Some.row.now) c.loop-key.key-iterator c.next.new.self
    c.is_lost_to.result c.in-Some.ensures.steps c.in_ok-push.ensures.items c.is_lost_to.ensures c.if-is_lost_to.true
    c.loop-key.invariant

pub loop-key-preserved : goal.loop-key-preserved
loop-key-preserved c =
    passed (is_lost_to c.args.neighbour.iface.number c.args.neighbour.address.bits) _ c.loop-key.keys.items
    (c.in-Some.key.now, c.in-Some.row.now) c.loop-key.key-iterator c.next.new.self c.is_lost_to.result
    c.in-Some.ensures.steps c.is_lost_to.ensures c.if-is_lost_to.false c.loop-key.invariant

pub returns : goal.returns
returns c =
    all_found (is_lost_to c.args.neighbour.iface.number c.args.neighbour.address.bits) _ c.loop-key.keys.items
    c.loop-key.key-iterator c.in-None.ensures.steps.0 c.loop-key.invariant
