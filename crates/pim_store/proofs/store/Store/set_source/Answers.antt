use Rattle.pim_types.{specs.declared.fact.{SourceRow.SourceRow, JoinTimerRow.JoinTimerRow}}
use Rattle.pim_store.{proofs.{Lowered.same_beside, Indexed.after_sources}, specs.Stored.tables_of}
use Rattle.pim_model.{specs.Tables.{Table, set_row}}
use Rattle.std.{proofs.Common.{◌≡◌, OnOk, subst}}
use Rattle.pim_store.proofs.store.Store.set_source.Goals as goal

pub set_row-requires-clause-told : goal.set_row-requires-clause-told
set_row-requires-clause-told c = c.self.invariant.sources

pub invariant_of-self : goal.invariant_of-self
invariant_of-self c = after_sources c.self.invariant c.set_row.ensures.others c.set_row.ensures.told

pub returns : goal.returns
returns c = rw (← c.self.view_is)
    (same_beside c.set_row.result
    (λ (t : Table SourceRow) (u : Table JoinTimerRow). record (tables_of c.self.inside) { sources = t; join_timers = u })
    c.set_row.new.rows _ _ _ c.set_row.ensures.timers
    (subst (λ k. OnOk c.set_row.result (c.set_row.new.rows ≡ set_row c.self.inside.sources k c.args.row))
    (c.key-key.ensures) c.set_row.ensures.set))
