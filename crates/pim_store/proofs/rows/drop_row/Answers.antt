use Rattle.std.{proofs.Common.{sym, ◌∙◌}}
use Rattle.pim_store.{proofs.Lowered.nothing_dropped}
use Rattle.pim_store.proofs.rows.drop_row.Goals as goal

pub returns-else-contains-clause-dropped : goal.returns-else-contains-clause-dropped
returns-else-contains-clause-dropped g c =
    nothing_dropped c.args.key c.args.rows.now (sym c.contains.ensures ∙ c.if-contains.false)
