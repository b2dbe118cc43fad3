use Rattle.std.{proofs.Common.None}
use Rattle.pim_store.{proofs.Told.{found_dropped, told_after}}
use Rattle.pim_store.proofs.rows.remove_row.Goals as goal

pub returns-clause-told : goal.returns-clause-told
returns-clause-told g c =
    told_after g.R.TellsMarks.tells g.R.TellsMarks.says g.R.TellsMarks.fits c.args.key _ _ c.requires.told None _ _
    c.requires.fits c.drop_marked.ensures.unmarked (found_dropped c.args.key _ _ c.drop_marked.ensures.removed)
