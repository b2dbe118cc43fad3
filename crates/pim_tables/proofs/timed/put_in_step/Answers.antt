use Rattle.std.{proofs.Common.{◌≡◌, OnErr, OnOk, ap, refl, subst, sym, ◌∙◌}}
use Rattle.pim_model.{specs.Tables.{put, row_at}}
use Rattle.pim_tables.{proofs.{Lookups.absent_is_left, Updates.{none_updated, put_updated}}}
use Rattle.pim_tables.proofs.timed.put_in_step.Goals as goal

pub add_in_step-requires-clause-absent : goal.add_in_step-requires-clause-absent
add_in_step-requires-clause-absent g c =
    ap (λ t. row_at t c.args.key)
    (c.in_ok-update_in_step.ensures.ok
    ∙ none_updated c.args.key (λ _. c.args.row) (g.K.ReadRows.table c.args.rows.now)
    (sym c.in_ok-update_in_step.ensures.before ∙ c.in-None.is))
    ∙ sym c.in_ok-update_in_step.ensures.before ∙ c.in-None.is

pub returns-in-Some-clause-ok : goal.returns-in-Some-clause-ok
returns-in-Some-clause-ok g c =
    c.in_ok-update_in_step.ensures.ok
    ∙ sym (put_updated c.args.key (λ _. c.args.row) (g.K.ReadRows.table c.args.rows.now) c.in-Some.field-0 c.args.row
    (sym c.in_ok-update_in_step.ensures.before ∙ c.in-Some.is) refl c.proof_rise.ensures)

pub returns-in-None-clause-ok : goal.returns-in-None-clause-ok
returns-in-None-clause-ok g c =
    subst (λ t. OnOk c.add_in_step.result ((g.K.ReadRows.table c.add_in_step.new.rows) ≡ put t c.args.key c.args.row))
    (c.in_ok-update_in_step.ensures.ok
    ∙ none_updated c.args.key (λ _. c.args.row) (g.K.ReadRows.table c.args.rows.now)
    (sym c.in_ok-update_in_step.ensures.before ∙ c.in-None.is))
    c.add_in_step.ensures.ok

pub returns-in-None-clause-err : goal.returns-in-None-clause-err
returns-in-None-clause-err g c =
    subst (λ t. OnErr c.add_in_step.result ((g.K.ReadRows.table c.add_in_step.new.rows) ≡ t))
    (c.in_ok-update_in_step.ensures.ok
    ∙ none_updated c.args.key (λ _. c.args.row) (g.K.ReadRows.table c.args.rows.now)
    (sym c.in_ok-update_in_step.ensures.before ∙ c.in-None.is)
    ∙ absent_is_left c.args.key g.R.Ends.kinds.1 (g.K.ReadRows.table c.args.rows.now)
    (sym c.in_ok-update_in_step.ensures.before ∙ c.in-None.is))
    c.add_in_step.ensures.err
