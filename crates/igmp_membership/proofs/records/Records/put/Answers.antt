use Rattle.std.{proofs.Common.{◌≡◌, Some, ap, subst, sym, ◌∙◌}, specs.Prelude.OnOk}
use Rattle.pim_model.{specs.Tables.{put, row_at}}
use Rattle.pim_tables.{proofs.{Lookups.{absent, put_is_changed}, Rows.{absent_is_unchanged, always}}}
use Rattle.igmp_membership.proofs.records.Records.put.Goals as goal

pub returns-then-branch : goal.returns-then-branch
returns-then-branch g c =
    c.in_ok-update.ensures.changed
    ∙ sym (put_is_changed c.args.key c.args.row (λ _. Some c.args.row) c.args.self.now c.proof_rising.ensures
    (sym c.in_ok-update.ensures.there ∙ c.if-branch.true) (always (row_at c.args.self.now c.args.key) c.args.row))

pub add-requires-clause-absent : goal.add-requires-clause-absent
unfolding row_at
add-requires-clause-absent g c =
    let none = absent c.args.key c.args.self.now (sym c.in_ok-update.ensures.there ∙ c.if-branch.false) in
    ap (λ t. row_at t c.args.key)
    (c.in_ok-update.ensures.changed ∙ sym (absent_is_unchanged c.args.key (λ _. Some c.args.row) c.args.self.now none))
    ∙ none

pub returns : goal.returns
returns g c =
    subst (λ t. OnOk c.add.result (c.add.new.self ≡ put t c.args.key c.args.row))
    (c.in_ok-update.ensures.changed
    ∙ sym (absent_is_unchanged c.args.key (λ _. Some c.args.row) c.args.self.now
    (absent c.args.key c.args.self.now (sym c.in_ok-update.ensures.there ∙ c.if-branch.false))))
    c.add.ensures
