use Rattle.igmp_membership.{proofs.Going.group_went}
use Rattle.igmp_membership.proofs.membership.Membership.drop_unrecorded.Goals as goal

pub invariant_of-self-2 : goal.invariant_of-self-2
invariant_of-self-2 c = (
  c.self.invariant.0,
  group_went c.args.iface.number c.args.group.bits c.self.inside.stale_queries _ c.self.inside.source_records
      c.self.inside.sendings _ c.without-self-inside.ensures c.self.invariant.1 c.in_ok-discard.ensures.ok,
)
