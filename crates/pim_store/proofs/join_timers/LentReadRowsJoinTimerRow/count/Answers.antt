use Rattle.pim_store.proofs.join_timers.LentReadRowsJoinTimerRow.count.Goals as goal

pub returns : goal.returns
returns c = rw (← c.self.view_is) c.self.invariant.counted
