use Rattle.pim_store.{proofs.Timers.timers_rise}
use Rattle.pim_store.proofs.index.Index.next_timer.Goals as goal

pub returns : goal.returns
returns c = rw (← c.self.view_is)
    (c.first.ensures _ (timers_rise _ c.is_empty.ensures.ascending) c.self.invariant.in_step)
