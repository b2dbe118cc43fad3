use Rattle.std.{proofs.Common.{sym, ◌∙◌}}
use Rattle.pim_downstream.{specs.Naming.is_counted, proofs.GroupKeys.{entries_made, entry_passed, entry_pushed}}
use Rattle.pim_downstream.proofs.named.push_joined.Goals as goal

pub loop-join-preserved-in-Continue-1 : goal.loop-join-preserved-in-Continue-1
loop-join-preserved-in-Continue-1 c =
    let l = c.loop-join in
    entry_pushed (is_counted c.args.world.now) c.args.iface.number c.args.group.now.group l.keys.items
    c.push.new.self.items _ c.in-Some.join l.join-iterator c.next.new.self c.group-address.result.bits c.key_by.result
    c.in-Some.ensures.steps c.group-address.ensures (sym c.is_counted.ensures ∙ c.if-is_counted.true) c.key_by.ensures
    c.in_ok-push.ensures.items l.invariant

pub loop-join-preserved : goal.loop-join-preserved
loop-join-preserved c =
    let l = c.loop-join in
    entry_passed (is_counted c.args.world.now) c.args.iface.number c.args.group.now.group l.keys.items _
    c.in-Some.join l.join-iterator c.next.new.self c.group-address.result.bits c.in-Some.ensures.steps
    c.group-address.ensures (sym c.is_counted.ensures ∙ c.if-is_counted.false) l.invariant

pub returns : goal.returns
returns c =
    let l = c.loop-join in
    entries_made (is_counted c.args.world.now) c.args.iface.number c.args.group.now.group l.keys.items _
    l.join-iterator c.in-None.ensures.steps.0 l.invariant
