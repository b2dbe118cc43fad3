use Rattle.std.{proofs.Common.{sym, ◌∙◌}}
use Rattle.pim_store.{proofs.Lowered.{nothing_changed, set_there}}
use Rattle.pim_store.proofs.rows.change_row.Goals as goal

pub returns-then-not-contains-clause-changed : goal.returns-then-not-contains-clause-changed
returns-then-not-contains-clause-changed g c =
    nothing_changed c.args.key c.args.rows.now (λ _. c.args.row) (sym c.contains.ensures ∙ c.if-not-contains.true)

pub returns-clause-changed : goal.returns-clause-changed
returns-clause-changed g c =
    set_there c.args.key c.args.rows.now c.args.row c.set_row.new.rows c.set_row.result c.proof_rising.ensures
    (sym c.contains.ensures ∙ c.if-not-contains.false) c.set_row.ensures.set
