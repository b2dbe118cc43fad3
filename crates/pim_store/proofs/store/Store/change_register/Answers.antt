use Rattle.pim_types.{specs.declared.fact.{RegisterRow.RegisterRow, JoinTimerRow.JoinTimerRow}}
use Rattle.pim_store.{proofs.{Lowered.same_beside, Indexed.after_registers}, specs.Stored.tables_of}
use Rattle.pim_model.{specs.Tables.Table}
use Rattle.pim_store.proofs.store.Store.change_register.Goals as goal

pub change_row-requires : goal.change_row-requires
change_row-requires c = c.self.invariant.registers

pub invariant_of-self : goal.invariant_of-self
invariant_of-self c = after_registers c.self.invariant c.change_row.ensures.others c.change_row.ensures.told

pub returns : goal.returns
returns c = rw (← c.self.view_is)
    (same_beside c.change_row.result
    (λ (t : Table RegisterRow) (u : Table JoinTimerRow). record (tables_of c.self.inside) { registers = t; join_timers = u })
    c.change_row.new.rows _ _ _ c.change_row.ensures.timers c.change_row.ensures.changed)
