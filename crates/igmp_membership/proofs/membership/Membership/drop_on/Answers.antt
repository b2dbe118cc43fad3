use Rattle.std.{proofs.Common.{subst, sym}}
use Rattle.pim_types.{specs.Keys.is_on}
use Rattle.igmp_membership.{specs.{MembershipTables.AreHeld, StaleQueries.HaveRecords}, proofs.{Going.both_dropped, Robust.robust_dropped}}
use Rattle.igmp_membership.proofs.membership.Membership.drop_on.Goals as goal

pub invariant_of-self : goal.invariant_of-self
invariant_of-self c = (
  subst AreHeld (sym c.drop_on.ensures)
      (robust_dropped (is_on c.args.iface.number) c.self.inside.queriers c.self.invariant.0),
  subst (λ r. HaveRecords c.self.inside.stale_queries r c.drop_on-6.new.self) (sym c.drop_on-3.ensures)
      (subst (HaveRecords c.self.inside.stale_queries _) (sym c.drop_on-6.ensures)
      (both_dropped (is_on c.args.iface.number) c.self.inside.stale_queries c.self.inside.source_records c.self.inside.sendings
      c.self.invariant.1)),
)
