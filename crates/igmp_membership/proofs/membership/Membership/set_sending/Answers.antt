use Rattle.igmp_membership.{proofs.Going.came}
use Rattle.igmp_membership.proofs.membership.Membership.set_sending.Goals as goal

pub invariant_of-self-2 : goal.invariant_of-self-2
invariant_of-self-2 c = (
  c.self.invariant.0,
  came c.self.inside.stale_queries _ c.self.inside.source_records c.self.inside.sendings _ c.self.invariant.1 c.source-key.result _
      c.source-key.ensures c.args.row c.would_lack-is_lacking.result c.would_lack-is_lacking.ensures c.with_key-stale_queries.ensures
      c.in_ok-set.ensures,
)
