use Rattle.std.{proofs.Common.{ap, ◌∙◌}, specs.List.list_any}
use Rattle.pim_types.{specs.Keys.names_source}
use Rattle.pim_model.{specs.Tables.keys_in}
use Rattle.igmp_membership.{proofs.Found.{any_member, first_tells, second_tells}, specs.MembershipTables.MembershipTables}
use Rattle.igmp_membership.proofs.membership.Membership.has_facts.Goals as goal

pub returns-then-has_source-clause-any : goal.returns-then-has_source-clause-any
returns-then-has_source-clause-any c =
    first_tells c.has_source.result _ _ _
    (c.has_source.ensures.any
    ∙ ap (λ (m : MembershipTables). list_any (names_source c.args.name.group.bits c.args.name.source.bits) (keys_in m.source_records))
    c.self.view_is)
    c.if-has_source.true
    (any_member c.args.name.group.bits c.args.name.source.bits c.args.self.now c.proof_keyed.ensures.records
    c.proof_keyed.ensures.group_repeats c.proof_keyed.ensures.source_repeats)

pub returns-else-has_source-clause-any : goal.returns-else-has_source-clause-any
returns-else-has_source-clause-any c =
    second_tells c.has_source.result c.has_source-else-has_source.result _ _ _
    (c.has_source.ensures.any
    ∙ ap (λ (m : MembershipTables). list_any (names_source c.args.name.group.bits c.args.name.source.bits) (keys_in m.source_records))
    c.self.view_is)
    c.if-has_source.false
    (c.has_source-else-has_source.ensures
    ∙ ap (λ (m : MembershipTables). list_any (names_source c.args.name.group.bits c.args.name.source.bits) (keys_in m.sendings))
    c.self.view_is)
    (any_member c.args.name.group.bits c.args.name.source.bits c.args.self.now c.proof_keyed.ensures.records
    c.proof_keyed.ensures.group_repeats c.proof_keyed.ensures.source_repeats)
