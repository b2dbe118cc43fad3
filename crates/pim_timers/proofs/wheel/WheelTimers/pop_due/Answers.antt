use Rattle.std.{proofs.Common.{arith, subst}}
use Rattle.pim_timers.{specs.Next.IsNext, proofs.Least.least_moment}
use Rattle.std.specs.FinMap as map
use Rattle.pim_timers.proofs.wheel.WheelTimers.pop_due.Goals as goal

pub returns-then-due-moment-clause-later : goal.returns-then-due-moment-clause-later
returns-then-due-moment-clause-later c timer end is =
    let least = subst (IsNext (map.get c.args.self.now)) c.in_ok-due.was c.next.ensures in
    omega (arith, least_moment _ _ timer end least is)
