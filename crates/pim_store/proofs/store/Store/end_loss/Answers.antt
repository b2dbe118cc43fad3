use Rattle.std.{proofs.Common.{sym, ap, ◌∙◌}}
use Rattle.pim_types.{specs.declared.fact.{AssertRow.AssertRow, JoinTimerRow.JoinTimerRow}}
use Rattle.pim_model.{specs.{Sets.is_loser, Tables.Table}}
use Rattle.pim_store.{proofs.{Losses.{loss_dropped, none_lost}, Indexed.{after_asserts, row_lost}, Lowered.{both_same, lost_there}}, specs.Stored.tables_of}
use Rattle.pim_store.proofs.store.Store.end_loss.Goals as goal

pub remove_row-requires-clause-fits : goal.remove_row-requires-clause-fits
remove_row-requires-clause-fits c =
    c.self.invariant.asserts.fit c.args.key
    (lost_there c.args.key c.self.inside.asserts
    (ap is_loser (sym c.get.ensures) ∙ sym (row_lost c.get.result) ∙ sym c.row_says.ensures ∙ c.if-row_says.true))

pub remove_row-requires-clause-told : goal.remove_row-requires-clause-told
remove_row-requires-clause-told c = c.self.invariant.asserts

pub invariant_of-self : goal.invariant_of-self
invariant_of-self c = after_asserts c.self.invariant c.remove_row.ensures.others c.remove_row.ensures.told

pub returns-then-row_says : goal.returns-then-row_says
returns-then-row_says c = rw (← c.self.view_is)
    (both_same (λ (t : Table AssertRow) (u : Table JoinTimerRow). record (tables_of c.self.inside) { asserts = t; join_timers = u })
    c.remove_row.ensures.timers
    (c.remove_row.ensures.removed
    ∙ loss_dropped is_loser c.args.key c.self.inside.asserts c.proof_rising.ensures
    (ap is_loser (sym c.get.ensures) ∙ sym (row_lost c.get.result) ∙ sym c.row_says.ensures ∙ c.if-row_says.true)))

pub returns-else-row_says : goal.returns-else-row_says
returns-else-row_says c = rw (← c.self.view_is)
    (ap (λ (t : Table AssertRow). record (tables_of c.self.inside) { asserts = t })
    (none_lost is_loser c.args.key c.self.inside.asserts c.proof_rising.ensures
    (ap is_loser (sym c.get.ensures) ∙ sym (row_lost c.get.result) ∙ sym c.row_says.ensures ∙ c.if-row_says.false)))
