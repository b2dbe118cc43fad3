use Rattle.std.{proofs.Common.{◌≡◌, OnOk, Some, ap, subst, sym, ◌∙◌}}
use Rattle.pim_model.{specs.Tables.{put, row_at}}
use Rattle.pim_tables.{proofs.{Lookups.{absent, put_is_changed}, Rows.always}}
use Rattle.pim_store.{proofs.Lowered.nothing_changed}
use Rattle.pim_store.proofs.rows.put_row.Goals as goal

pub returns-then-branch-clause-put : goal.returns-then-branch-clause-put
returns-then-branch-clause-put g c =
    c.in_ok-update_row.ensures.changed
    ∙ sym (put_is_changed c.args.key c.args.row (λ _. Some c.args.row) c.args.rows.now c.proof_rising.ensures
    (sym c.in_ok-update_row.ensures.there ∙ c.if-branch.true) (always (row_at c.args.rows.now c.args.key) c.args.row))

pub add_row-requires-clause-absent : goal.add_row-requires-clause-absent
unfolding row_at
add_row-requires-clause-absent g c =
    let gone = sym c.in_ok-update_row.ensures.there ∙ c.if-branch.false in
    ap (λ t. row_at t c.args.key) (c.in_ok-update_row.ensures.changed
    ∙ sym (nothing_changed c.args.key c.args.rows.now (λ _. Some c.args.row) gone))
    ∙ absent c.args.key c.args.rows.now gone

pub returns-clause-put : goal.returns-clause-put
returns-clause-put g c =
    subst (λ t. OnOk c.add_row.result (c.add_row.new.rows ≡ put t c.args.key c.args.row))
    (c.in_ok-update_row.ensures.changed
    ∙ sym (nothing_changed c.args.key c.args.rows.now (λ _. Some c.args.row)
    (sym c.in_ok-update_row.ensures.there ∙ c.if-branch.false)))
    c.add_row.ensures.put
