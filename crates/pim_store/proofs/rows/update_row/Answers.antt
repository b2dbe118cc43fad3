use Rattle.std.{proofs.Common.{None, Some, ap, is_some, subst, sym, ◌∙◌}}
use Rattle.pim_model.{specs.Tables.{drop_at, has_row, row_at}}
use Rattle.pim_tables.{proofs.{Lookups.left_is_dropped, Updates.{found_updated, none_updated, updated_goes}}}
use Rattle.pim_store.{specs.Said.{IsTold, SetsMarks, row_says}, proofs.Told.{found_dropped, nothing_new, told_after}}
use Rattle.pim_store.proofs.rows.update_row.Goals as goal

pub returns-in-Err-clause-told : goal.returns-in-Err-clause-told
returns-in-Err-clause-told g c =
    told_after g.R.TellsMarks.tells g.R.TellsMarks.says g.R.TellsMarks.fits c.args.key _ _ c.requires.told None _ _
    c.requires.fits c.drop_marked.ensures.unmarked
    (found_dropped c.args.key _ _
    (c.drop_marked.ensures.removed ∙ ap (λ t. drop_at t c.args.key) c.in-Err.ensures.err
    ∙ left_is_dropped c.args.key g.R.Ends.kinds.1 c.args.rows.now))

pub returns-in_default-clause-there : goal.returns-in_default-clause-there
unfolding has_row
returns-in_default-clause-there g c = sym (ap is_some (sym c.in-Ok.ensures.before ∙ c.in_default.is))

pub returns-in_default-clause-told : goal.returns-in_default-clause-told
returns-in_default-clause-told g c =
    subst (λ t. IsTold g.R.TellsMarks.tells g.R.TellsMarks.says g.R.TellsMarks.fits c.args.index.now t)
    (sym (c.in-Ok.ensures.ok
    ∙ none_updated c.args.key (g.C.Change.after c.args.change) c.args.rows.now
    (sym c.in-Ok.ensures.before ∙ c.in_default.is)))
    c.requires.told

pub returns-then-says_alike-clause-there : goal.returns-then-says_alike-clause-there
unfolding has_row
returns-then-says_alike-clause-there g c = sym (ap is_some (sym c.in-Ok.ensures.before ∙ c.in-Some.is))

pub returns-then-says_alike-clause-told : goal.returns-then-says_alike-clause-told
returns-then-says_alike-clause-told g c =
    told_after g.R.TellsMarks.tells g.R.TellsMarks.says g.R.TellsMarks.fits c.args.key _ _ c.requires.told
    (Some c.after-row.result) _ _ c.requires.fits
    (nothing_new g.R.TellsMarks.tells g.R.TellsMarks.says g.R.TellsMarks.fits c.args.key _ _ c.requires.told
    c.after-row.result
    (λ x i about.
    c.says_alike.ensures.alike c.if-says_alike.true x i about
    ∙ ap (λ o. row_says g.R.TellsMarks.tells g.R.TellsMarks.says x o) (sym c.in-Some.is ∙ c.in-Ok.ensures.before)))
    (λ q. ap (λ t. row_at t q) c.in-Ok.ensures.ok
    ∙ found_updated c.args.key (g.C.Change.after c.args.change) c.args.rows.now c.in-Some.before c.after-row.result
    (sym c.in-Ok.ensures.before ∙ c.in-Some.is) c.after-row.ensures c.proof_rising.ensures q)

pub returns-in-Err-mark-clause-told : goal.returns-in-Err-mark-clause-told
returns-in-Err-mark-clause-told g c =
    told_after g.R.TellsMarks.tells g.R.TellsMarks.says g.R.TellsMarks.fits c.args.key _ _ c.requires.told None _ _
    c.requires.fits
    (subst
    (λ m. SetsMarks g.R.TellsMarks.tells g.R.TellsMarks.says m c.drop_marked-in-Err-mark.new.index c.args.key None)
    c.in-Err-mark.ensures.err c.drop_marked-in-Err-mark.ensures.unmarked)
    (found_dropped c.args.key _ _
    (c.drop_marked-in-Err-mark.ensures.removed ∙ ap (λ t. drop_at t c.args.key) c.in-Ok.ensures.ok
    ∙ updated_goes c.args.key (g.C.Change.after c.args.change) c.args.rows.now))

pub returns-clause-there : goal.returns-clause-there
unfolding has_row
returns-clause-there g c = sym (ap is_some (sym c.in-Ok.ensures.before ∙ c.in-Some.is))

pub returns-clause-told : goal.returns-clause-told
returns-clause-told g c =
    told_after g.R.TellsMarks.tells g.R.TellsMarks.says g.R.TellsMarks.fits c.args.key _ _ c.requires.told
    (Some c.after-row.result) _ _ c.requires.fits c.in_default-mark.ensures.ok
    (λ q. ap (λ t. row_at t q) c.in-Ok.ensures.ok
    ∙ found_updated c.args.key (g.C.Change.after c.args.change) c.args.rows.now c.in-Some.before c.after-row.result
    (sym c.in-Ok.ensures.before ∙ c.in-Some.is) c.after-row.ensures c.proof_rising.ensures q)
