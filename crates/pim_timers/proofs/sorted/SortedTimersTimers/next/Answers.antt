use Rattle.pim_timers.{specs.Dues.is_among, proofs.Together.first_is_next}
use Rattle.std.specs.FinMap as map
use Rattle.pim_timers.proofs.sorted.SortedTimersTimers.next.Goals as goal

pub returns : goal.returns
returns c = rw (← c.self.view_is) (first_is_next (map.get c.self.inside.moments)
    (is_among c.self.inside.dues) c.first.result c.self.invariant c.first.ensures)
