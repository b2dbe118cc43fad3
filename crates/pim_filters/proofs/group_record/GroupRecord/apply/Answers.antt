use Rattle.std.{proofs.Common.{ap, sym, subst, ◌∙◌, filter_map}}
use Rattle.pim_filters.{specs.{Cases.cases_in, Changes.{asked_after, entry_after}, Members.{IsAscending, bits_of}, declared.rule.Rule.Rule}, proofs.Applying.{IsAscending-after, applied}}
use Rattle.pim_model.{specs.Records.apply_record}
use Rattle.pim_filters.proofs.group_record.GroupRecord.apply.Goals as goal

pub invariant_of-self : goal.invariant_of-self
invariant_of-self c =
    let rule : Rule = record { record_type = c.args.record_type; timer = c.self.inside.timer; full = c.args.full } in
    let names = c.as_slice-2.ensures ∙ c.in_ok-names.ensures in
    let members = c.in_ok-self-inside.ensures ∙ (λ i. filter_map (entry_after rule) (cases_in (c.as_slice-members.ensures i) (names i))) in
    subst IsAscending (sym members) (IsAscending-after rule c.self.inside.members.items (bits_of c.args.sources.now) c.self.invariant)

pub returns-clause-record_after : goal.returns-clause-record_after
returns-clause-record_after c =
    let rule : Rule = record { record_type = c.args.record_type; timer = c.self.inside.timer; full = c.args.full } in
    let named = bits_of c.args.sources.now in
    let names = c.as_slice-2.ensures ∙ c.in_ok-names.ensures in
    let members = c.in_ok-self-inside.ensures ∙ (λ i. filter_map (entry_after rule) (cases_in (c.as_slice-members.ensures i) (names i))) in
    (λ i. record { timer = c.timer_after-self-inside.ensures i; members = members i })
    ∙ ap (λ p. p.0) (sym (applied rule c.self.inside.members.items named c.self.invariant))
    ∙ ap (λ r. (apply_record c.args.full r c.args.record_type named).0) c.self.view_is

pub returns-clause-asked_after : goal.returns-clause-asked_after
returns-clause-asked_after c =
    let rule : Rule = record { record_type = c.args.record_type; timer = c.self.inside.timer; full = c.args.full } in
    let named = bits_of c.args.sources.now in
    let names = c.as_slice.ensures ∙ c.in_ok-names.ensures in
    c.in_ok-asking.ensures
    ∙ (λ i. asked_after rule (cases_in (c.as_slice-members.ensures i) (names i)))
    ∙ ap (λ p. p.1) (sym (applied rule c.self.inside.members.items named c.self.invariant))
    ∙ ap (λ r. (apply_record c.args.full r c.args.record_type named).1) c.self.view_is
