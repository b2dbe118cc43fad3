use Rattle.pim_timers.{specs.Armed.holds}
use Rattle.pim_tables.{proofs.Steps.{armed_beside, row_still_armed}}
use Rattle.pim_tables.proofs.end_queue.EndQueue.arm.Goals as goal

pub returns-clause-before : goal.returns-clause-before
returns-clause-before g c =
    row_still_armed g.R.Ends.kinds g.R.Ends.ends (holds c.self.inside.queue) (holds c.arm_ends.new.queue) c.args.key
    c.args.before c.arm_ends.ensures.grows (rw (← c.self.view_is) at c.requires)

pub returns-clause-beside : goal.returns-clause-beside
returns-clause-beside g c = λ rows after w step row armed.
    armed_beside g.R.Ends.kinds g.R.Ends.ends c.self.inside.queue c.arm_ends.new.queue rows after c.args.key w
    c.arm_ends.ensures.grows c.arm_ends.ensures.others (rw (← c.self.view_is) at step) row armed
