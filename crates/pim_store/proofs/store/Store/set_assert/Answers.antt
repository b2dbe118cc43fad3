use Rattle.pim_types.{specs.declared.fact.{AssertRow.AssertRow, JoinTimerRow.JoinTimerRow}}
use Rattle.pim_store.{proofs.{Lowered.same_beside, Indexed.after_asserts, Places.fact_named}, specs.Stored.tables_of}
use Rattle.pim_model.{specs.Tables.{Table, set_row}}
use Rattle.std.{proofs.Common.{false, ◌≡◌, OnOk, subst}}
use Rattle.pim_store.proofs.store.Store.set_assert.Goals as goal

pub set_row-requires-clause-told : goal.set_row-requires-clause-told
set_row-requires-clause-told c = c.self.invariant.asserts

pub invariant_of-self : goal.invariant_of-self
invariant_of-self c = after_asserts c.self.invariant c.set_row.ensures.others c.set_row.ensures.told

pub returns : goal.returns
returns c = rw (← c.self.view_is)
    (same_beside c.set_row.result
    (λ (t : Table AssertRow) (u : Table JoinTimerRow). record (tables_of c.self.inside) { asserts = t; join_timers = u })
    c.set_row.new.rows _ _ _ c.set_row.ensures.timers
    (subst (λ k. OnOk c.set_row.result (c.set_row.new.rows ≡ set_row c.self.inside.asserts k c.args.row))
    (fact_named c.args.iface.number c.args.group c.args.source false) c.set_row.ensures.set))
