use Rattle.std.{proofs.Common.{◌≤◌, subst, sym}, specs.Option.IfSome}
use Rattle.igmp_membership.{proofs.Robust.robust_found}
use Rattle.igmp_membership.proofs.membership.Membership.querier.Goals as goal

pub returns-clause-robust : goal.returns-clause-robust
returns-clause-robust c =
    subst (λ o. IfSome o (λ row. row.robustness ≤ 7)) (sym c.get.ensures)
    (robust_found c.iface.result c.self.inside.queriers c.self.invariant.0)
