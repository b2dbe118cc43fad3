use Rattle.std.{proofs.Common.subst}
use Rattle.igmp_membership.{specs.MembershipTables.AllRise}
use Rattle.igmp_membership.proofs.membership.Membership.proof_rising.Goals as goal

pub returns : goal.returns
returns c =
    subst (λ m. AllRise m) c.self.view_is
    (record {
      queriers = c.proof_rising.ensures;
      group_records = c.proof_rising-2.ensures;
      source_records = c.proof_rising-3.ensures;
      group_repeats = c.proof_rising-4.ensures;
      source_repeats = c.proof_rising-5.ensures;
      sendings = c.proof_rising-6.ensures;
    })
