use Rattle.pim_types.{specs.Keys.is_on}
use Rattle.igmp_membership.{proofs.Going.sendings_left}
use Rattle.igmp_membership.proofs.membership.Membership.drop_repeats_on.Goals as goal

pub invariant_of-self : goal.invariant_of-self
invariant_of-self c = (
  c.self.invariant.0,
  sendings_left c.self.inside.stale_queries c.self.inside.source_records c.self.inside.sendings _ c.self.invariant.1
      (is_on c.args.iface.number) c.drop_on-3.ensures,
)
