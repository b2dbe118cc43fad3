use Rattle.std.{proofs.Common.{◌≡◌, OnOk, subst}}
use Rattle.pim_types.{specs.declared.fact.{RegisterRow.RegisterRow, JoinTimerRow.JoinTimerRow}}
use Rattle.pim_store.{proofs.{Lowered.same_beside, Indexed.after_registers}, specs.Stored.tables_of}
use Rattle.pim_model.{specs.Tables.{Table, set_row}}
use Rattle.pim_store.proofs.store.Store.set_register.Goals as goal

pub set_row-requires-clause-told : goal.set_row-requires-clause-told
set_row-requires-clause-told c = c.self.invariant.registers

pub invariant_of-self : goal.invariant_of-self
invariant_of-self c = after_registers c.self.invariant c.set_row.ensures.others c.set_row.ensures.told

pub returns : goal.returns
returns c = rw (← c.self.view_is)
    (same_beside c.set_row.result
    (λ (t : Table RegisterRow) (u : Table JoinTimerRow). record (tables_of c.self.inside) { registers = t; join_timers = u })
    c.set_row.new.rows _ _ _ c.set_row.ensures.timers
    (subst (λ k. OnOk c.set_row.result (c.set_row.new.rows ≡ set_row c.self.inside.registers k c.args.row))
    (c.key-key.ensures) c.set_row.ensures.set))
