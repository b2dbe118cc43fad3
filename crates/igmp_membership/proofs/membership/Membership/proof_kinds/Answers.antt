use Rattle.std.{proofs.Common.{IsTrue, subst}}
use Rattle.igmp_membership.{proofs.OfKind.{each_of_kind, groups, listed}, specs.MembershipTables.{MembershipTables, are_of_kind}}
use Rattle.igmp_membership.proofs.membership.Membership.proof_kinds.Goals as goal

pub returns : goal.returns
returns c =
    let tables : MembershipTables = record {
      queriers = c.self.inside.queriers;
      group_records = c.self.inside.group_records;
      source_records = c.self.inside.source_records;
      group_repeats = c.self.inside.group_repeats;
      source_repeats = c.self.inside.source_repeats;
      sendings = c.self.inside.sendings;
    } in
    subst (λ m. IsTrue (are_of_kind m)) c.self.view_is
    (each_of_kind tables c.self.invariant.0
    (groups c.self.inside.group_records c.proof_kind.ensures.fit c.proof_kind.ensures.kind)
    (listed c.self.inside.source_records c.proof_kind-2.ensures.fit c.proof_kind-2.ensures.kind)
    c.proof_kind-3.ensures c.proof_kind-4.ensures c.proof_kind-5.ensures)
