use Rattle.std.{proofs.Common.{◌∙◌, ap}}
use Rattle.pim_types.{specs.declared.fact.InterfaceRow.InterfaceRow}
use Rattle.pim_model.{specs.{State.InterfaceTable, Tables.Table}}
use Rattle.pim_worlds.{specs.Refilled.refilled, proofs.Filled.filled}
use Rattle.pim_worlds.proofs.interfaces.interfaces_of.Goals as goal

abbrev with_rows : InterfaceTable → Table InterfaceRow → InterfaceTable
with_rows t rows = record t { rows = rows }

pub returns-clause-made : goal.returns-clause-made
returns-clause-made c = λ rise.
    c.in_ok-put_ups.ensures.put c.if-not-branch.false
    ∙ ap (λ (t : InterfaceTable). with_rows t (refilled t.rows c.args.rows.now)) c.in_ok-interfaces.ensures
    ∙ ap (with_rows (record { configured = record { interfaces = c.args.configured.now; addresses = c.args.addresses.now }; rows = c.args.rows.now })) (filled c.args.rows.now rise)
