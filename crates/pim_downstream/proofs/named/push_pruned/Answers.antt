use Rattle.std.{proofs.Common.{sym, ◌∙◌}}
use Rattle.pim_model.{specs.Downstream.is_used}
use Rattle.pim_downstream.{proofs.GroupKeys.{entries_made, entry_passed, entry_pushed}}
use Rattle.pim_downstream.proofs.named.push_pruned.Goals as goal

pub loop-prune-preserved-in-Continue-1 : goal.loop-prune-preserved-in-Continue-1
loop-prune-preserved-in-Continue-1 c =
    let l = c.loop-prune in
    entry_pushed is_used c.args.iface.number c.args.group.now.group l.keys.items c.push.new.self.items _
    c.in-Some.prune l.prune-iterator c.next.new.self c.group-address.result.bits c.key_by.result
    c.in-Some.ensures.steps c.group-address.ensures (sym c.is_used.ensures ∙ c.if-is_used.true) c.key_by.ensures
    c.in_ok-push.ensures.items l.invariant

pub loop-prune-preserved : goal.loop-prune-preserved
loop-prune-preserved c =
    let l = c.loop-prune in
    entry_passed is_used c.args.iface.number c.args.group.now.group l.keys.items _
    c.in-Some.prune l.prune-iterator c.next.new.self c.group-address.result.bits
    c.in-Some.ensures.steps c.group-address.ensures (sym c.is_used.ensures ∙ c.if-is_used.false) l.invariant

pub returns : goal.returns
returns c =
    let l = c.loop-prune in
    entries_made is_used c.args.iface.number c.args.group.now.group l.keys.items _ l.prune-iterator
    c.in-None.ensures.steps.0 l.invariant
