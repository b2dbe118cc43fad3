use Rattle.pim_types.{specs.declared.fact.{DownstreamRow.DownstreamRow, JoinTimerRow.JoinTimerRow}}
use Rattle.pim_store.{proofs.{Lowered.same_beside, Indexed.after_downstream}, specs.Stored.tables_of}
use Rattle.pim_model.{specs.Tables.Table}
use Rattle.pim_store.proofs.store.Store.set_downstream.Goals as goal

pub set_row-requires-clause-told : goal.set_row-requires-clause-told
set_row-requires-clause-told c = c.self.invariant.downstream

pub invariant_of-self : goal.invariant_of-self
invariant_of-self c = after_downstream c.self.invariant c.set_row.ensures.others c.set_row.ensures.told

pub returns : goal.returns
returns c = rw (← c.self.view_is)
    (same_beside c.set_row.result
    (λ (t : Table DownstreamRow) (u : Table JoinTimerRow). record (tables_of c.self.inside) { downstream = t; join_timers = u })
    c.set_row.new.rows _ _ _ c.set_row.ensures.timers
    c.set_row.ensures.set)
