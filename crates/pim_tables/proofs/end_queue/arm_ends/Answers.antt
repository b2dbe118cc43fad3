use Rattle.std.{proofs.Common.{Some, ◌∙◌}}
use Rattle.pim_timers.{specs.Armed.holds}
use Rattle.pim_tables.{specs.Ends.timer_of, proofs.Steps.{known_first, known_second, of_one, of_other_key, of_some_kind, row_armed, row_still_armed, timer_still_armed}}
use Rattle.pim_tables.proofs.end_queue.arm_ends.Goals as goal

pub arm-requires : goal.arm-requires
arm-requires g c =
    known_first g.R.Ends.kinds g.R.Ends.ends g.met.R.Ends.apart c.args.key c.args.before c.kinds-kinds.result
    c.ends_of-from.result c.kinds-kinds.ensures c.ends_of-from.ensures (holds c.args.queue.now) c.requires

pub arm-requires-in-Some : goal.arm-requires-in-Some
arm-requires-in-Some g c =
    known_second g.R.Ends.kinds g.R.Ends.ends g.met.R.Ends.apart c.args.key c.args.before c.kinds-kinds.result
    c.ends_of-from.result c.kinds-kinds.ensures c.ends_of-from.ensures (holds c.arm.new.self)
    (row_still_armed g.R.Ends.kinds g.R.Ends.ends (holds c.args.queue.now) (holds c.arm.new.self) c.args.key c.args.before
    c.arm.ensures.grows c.requires) c.in-Some.kind c.in-Some.is

pub returns-in_err-arm-clause-others : goal.returns-in_err-arm-clause-others
returns-in_err-arm-clause-others g c = λ d other.
    c.arm.ensures.others d (of_other_key d.1 c.kinds-kinds.result.0 c.args.key other)

pub returns-in_err-arm-2-clause-others : goal.returns-in_err-arm-2-clause-others
returns-in_err-arm-2-clause-others g c = λ d other.
    c.arm-in-Some.ensures.others d (of_other_key d.1 c.in-Some.kind c.args.key other)
    ∙ c.arm.ensures.others d (of_other_key d.1 c.kinds-kinds.result.0 c.args.key other)

pub returns-in_ok-arm-2-clause-ok : goal.returns-in_ok-arm-2-clause-ok
returns-in_ok-arm-2-clause-ok g c =
    row_armed g.R.Ends.kinds g.R.Ends.ends g.met.R.Ends.apart c.args.key (Some c.args.row) c.kinds-kinds.result
    c.ends-to.result c.kinds-kinds.ensures c.ends-to.ensures (holds c.arm-in-Some.new.self)
    (timer_still_armed (holds c.arm.new.self) (holds c.arm-in-Some.new.self) (timer_of c.kinds-kinds.result.0 c.args.key)
    c.ends-to.result.0 c.arm-in-Some.ensures.grows c.in_ok-arm.ensures.ok)
    (of_some_kind (holds c.arm-in-Some.new.self) c.args.key c.ends-to.result.1 c.kinds-kinds.result.1 c.in-Some.kind
    c.in-Some.is c.in_ok-arm-2.ensures.ok)

pub returns-in_ok-arm-2-clause-others : goal.returns-in_ok-arm-2-clause-others
returns-in_ok-arm-2-clause-others g c = λ d other.
    c.arm-in-Some.ensures.others d (of_other_key d.1 c.in-Some.kind c.args.key other)
    ∙ c.arm.ensures.others d (of_other_key d.1 c.kinds-kinds.result.0 c.args.key other)

pub returns-in_default-clause-ok : goal.returns-in_default-clause-ok
returns-in_default-clause-ok g c =
    row_armed g.R.Ends.kinds g.R.Ends.ends g.met.R.Ends.apart c.args.key (Some c.args.row) c.kinds-kinds.result
    c.ends-to.result c.kinds-kinds.ensures c.ends-to.ensures (holds c.arm.new.self) c.in_ok-arm.ensures.ok
    (of_one (holds c.arm.new.self) c.args.key c.ends-to.result.1 c.kinds-kinds.result.1 c.in_default.is)

pub returns-in_default-clause-others : goal.returns-in_default-clause-others
returns-in_default-clause-others g c = λ d other.
    c.arm.ensures.others d (of_other_key d.1 c.kinds-kinds.result.0 c.args.key other)
