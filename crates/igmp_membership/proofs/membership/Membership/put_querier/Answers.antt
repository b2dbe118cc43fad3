use Rattle.std.{proofs.Common.ap}
use Rattle.igmp_membership.{proofs.Robust.robust_after_put, specs.MembershipTables.is_querier_key}
use Rattle.igmp_membership.proofs.membership.Membership.put_querier.Goals as goal

pub invariant_of-self : goal.invariant_of-self
invariant_of-self c = (
  robust_after_put c.put.result c.iface.result c.args.row c.self.inside.queriers c.put.new.self c.requires
      c.self.invariant.0 (ap is_querier_key c.iface.ensures) c.put.ensures.ok c.put.ensures.err,
  c.self.invariant.1,
)
