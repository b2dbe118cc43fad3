use Rattle.pim_types.{specs.declared.fact.JoinTimerRow.JoinTimerRow}
use Rattle.pim_model.{specs.Tables.Table}
use Rattle.pim_store.{specs.{Said.timers_in, Stored.tables_of}, proofs.{Indexed.after_join_timers, Lowered.same_on_ok}}
use Rattle.pim_store.proofs.store.Store.change_join_timer.Goals as goal

pub invariant_of-self : goal.invariant_of-self
invariant_of-self c = after_join_timers c.self.invariant c.change_timer.ensures.marks

pub returns : goal.returns
returns c = rw (← c.self.view_is)
    (same_on_ok c.change_timer.result (λ (u : Table JoinTimerRow). record (tables_of c.self.inside) { join_timers = u })
    (timers_in c.change_timer.new.self) _ c.change_timer.ensures.changed)
