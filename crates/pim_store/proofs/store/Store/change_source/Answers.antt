use Rattle.pim_types.{specs.declared.fact.{SourceRow.SourceRow, JoinTimerRow.JoinTimerRow}}
use Rattle.pim_store.{proofs.{Lowered.same_beside, Indexed.after_sources}, specs.Stored.tables_of}
use Rattle.pim_model.{specs.Tables.Table}
use Rattle.pim_store.proofs.store.Store.change_source.Goals as goal

pub change_row-requires : goal.change_row-requires
change_row-requires c = c.self.invariant.sources

pub invariant_of-self : goal.invariant_of-self
invariant_of-self c = after_sources c.self.invariant c.change_row.ensures.others c.change_row.ensures.told

pub returns : goal.returns
returns c = rw (← c.self.view_is)
    (same_beside c.change_row.result
    (λ (t : Table SourceRow) (u : Table JoinTimerRow). record (tables_of c.self.inside) { sources = t; join_timers = u })
    c.change_row.new.rows _ _ _ c.change_row.ensures.timers c.change_row.ensures.changed)
