use Rattle.std.{proofs.Common.{None, Some, ap, ◌∙◌}}
use Rattle.pim_model.{specs.Tables.drop_at}
use Rattle.pim_store.{proofs.Told.{found_dropped, found_put, marks_again, told_after}}
use Rattle.pim_store.proofs.rows.add_row.Goals as goal

pub returns-in-Err-clause-told : goal.returns-in-Err-clause-told
returns-in-Err-clause-told g c =
    told_after g.R.TellsMarks.tells g.R.TellsMarks.says g.R.TellsMarks.fits c.args.key _ _ c.requires.told None _ _
    c.requires.fits
    (marks_again g.R.TellsMarks.tells g.R.TellsMarks.says c.args.key (Some c.args.row) None _ _ _
    c.in_ok-mark.ensures.ok c.drop_marked.ensures.unmarked)
    (found_dropped c.args.key _ _
    (c.drop_marked.ensures.removed ∙ ap (λ t. drop_at t c.args.key) c.in-Err.ensures.err))

pub returns-clause-told : goal.returns-clause-told
returns-clause-told g c =
    told_after g.R.TellsMarks.tells g.R.TellsMarks.says g.R.TellsMarks.fits c.args.key _ _ c.requires.told (Some c.args.row)
    _ _ c.requires.fits c.in_ok-mark.ensures.ok (found_put c.args.key c.args.row _ _ c.in_default.ensures.ok)
