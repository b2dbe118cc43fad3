use Rattle.pim_store.{proofs.Timers.timers_rise}
use Rattle.pim_store.proofs.join_timers.LentReadRowsJoinTimerRow.proof_rise.Goals as goal

pub returns : goal.returns
returns c = rw (← c.self.view_is) (timers_rise _ c.is_empty.ensures.ascending)
