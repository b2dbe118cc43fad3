use Rattle.std.{proofs.Common.{◌≡◌, OnOk, subst}}
use Rattle.pim_types.{specs.declared.fact.{OverrideTimerRow.OverrideTimerRow, JoinTimerRow.JoinTimerRow}}
use Rattle.pim_store.{proofs.{Lowered.same_beside, Indexed.after_override_timers}, specs.Stored.tables_of}
use Rattle.pim_model.{specs.Tables.{Table, set_row}}
use Rattle.pim_store.proofs.store.Store.set_override_timer.Goals as goal

pub set_row-requires-clause-told : goal.set_row-requires-clause-told
set_row-requires-clause-told c = c.self.invariant.override_timers

pub invariant_of-self : goal.invariant_of-self
invariant_of-self c = after_override_timers c.self.invariant c.set_row.ensures.others c.set_row.ensures.told

pub returns : goal.returns
returns c = rw (← c.self.view_is)
    (same_beside c.set_row.result
    (λ (t : Table OverrideTimerRow) (u : Table JoinTimerRow). record (tables_of c.self.inside) { override_timers = t; join_timers = u })
    c.set_row.new.rows _ _ _ c.set_row.ensures.timers
    (subst (λ k. OnOk c.set_row.result (c.set_row.new.rows ≡ set_row c.self.inside.override_timers k c.args.row))
    (c.rpt_key-key.ensures) c.set_row.ensures.set))
