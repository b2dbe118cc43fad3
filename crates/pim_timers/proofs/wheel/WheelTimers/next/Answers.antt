use Rattle.pim_timers.{specs.Armed.holds, proofs.Armed.first_is_next}
use Rattle.std.specs.FinMap as map
use Rattle.pim_timers.proofs.wheel.WheelTimers.next.Goals as goal

pub returns : goal.returns
returns c = rw (← c.self.view_is) (first_is_next (map.get c.self.inside.moments) (holds c.self.inside.queue)
    c.first.result c.self.invariant.armed c.self.invariant.real c.first.ensures)
