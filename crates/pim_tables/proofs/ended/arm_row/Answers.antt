use Rattle.std.{proofs.Common.Some}
use Rattle.pim_timers.{specs.Armed.holds}
use Rattle.pim_tables.{specs.Ends.timer_of, proofs.Steps.{of_one, of_some_kind, row_armed, timer_still_armed}}
use Rattle.pim_tables.proofs.ended.arm_row.Goals as goal

pub returns-in-Some-clause-armed : goal.returns-in-Some-clause-armed
returns-in-Some-clause-armed g c =
    row_armed g.R.Ends.kinds g.R.Ends.ends g.met.R.Ends.apart c.args.key (Some c.args.row) c.kinds-kinds.result
    c.ends-ends.result c.kinds-kinds.ensures c.ends-ends.ensures (holds c.push_end-in-Some.new.queue)
    (timer_still_armed (holds c.push_end.new.queue) (holds c.push_end-in-Some.new.queue)
    (timer_of c.kinds-kinds.result.0 c.args.key) c.ends-ends.result.0 c.push_end-in-Some.ensures.grows c.push_end.ensures.armed)
    (of_some_kind (holds c.push_end-in-Some.new.queue) c.args.key c.ends-ends.result.1 c.kinds-kinds.result.1 c.in-Some.kind
    c.in-Some.is c.push_end-in-Some.ensures.armed)

pub returns-in_default-clause-armed : goal.returns-in_default-clause-armed
returns-in_default-clause-armed g c =
    row_armed g.R.Ends.kinds g.R.Ends.ends g.met.R.Ends.apart c.args.key (Some c.args.row) c.kinds-kinds.result
    c.ends-ends.result c.kinds-kinds.ensures c.ends-ends.ensures (holds c.push_end.new.queue) c.push_end.ensures.armed
    (of_one (holds c.push_end.new.queue) c.args.key c.ends-ends.result.1 c.kinds-kinds.result.1 c.in_default.is)
