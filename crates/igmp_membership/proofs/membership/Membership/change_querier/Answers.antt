use Rattle.igmp_membership.{proofs.Robust.robust_after_change}
use Rattle.igmp_membership.proofs.membership.Membership.change_querier.Goals as goal

pub invariant_of-self : goal.invariant_of-self
invariant_of-self c = (
  robust_after_change c.change.result c.iface.result c.args.row c.self.inside.queriers c.change.new.self c.requires
      c.self.invariant.0 c.change.ensures.to c.change.ensures.err,
  c.self.invariant.1,
)
