use Rattle.std.{proofs.Common.◌≡◌, specs.Prelude.fold}
use Rattle.pim_plan.{specs.Renewing.group_renewed}
use Rattle.pim_event.proofs.again.take_renewed.Given as goal

abbrev pub invariant-loop-group_record : goal.invariant-loop-group_record
invariant-loop-group_record l =
    fold (group_renewed l.iface.number l.end) l.world l.group_record-iterator
    ≡ fold (group_renewed l.iface.number l.end) l.fn.world l.fn.report
