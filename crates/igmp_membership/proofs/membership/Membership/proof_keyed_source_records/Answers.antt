use Rattle.std.{proofs.Common.{◌≡◌, true, subst}, specs.List.AllByRecursion}
use Rattle.law_settled.{specs.Laws.is_under_source}
use Rattle.igmp_membership.{proofs.Rising.are_under_sources, specs.MembershipTables.MembershipTables}
use Rattle.igmp_membership.proofs.membership.Membership.proof_keyed_source_records.Goals as goal

pub returns : goal.returns
returns c =
    subst (λ (m : MembershipTables). AllByRecursion (λ e. is_under_source e ≡ true) m.source_records) c.self.view_is
    (are_under_sources c.self.inside.source_records c.proof_kind.ensures.fit c.proof_kind.ensures.kind)
