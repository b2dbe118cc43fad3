use Rattle.igmp_membership.{proofs.Going.sending_changed}
use Rattle.igmp_membership.proofs.membership.Membership.change_sending.Goals as goal

pub invariant_of-self : goal.invariant_of-self
invariant_of-self c = (
  c.self.invariant.0,
  sending_changed c.self.inside.stale_queries c.self.inside.source_records c.self.inside.sendings _ c.self.invariant.1 c.args.key
      c.args.row c.change.ensures,
)
