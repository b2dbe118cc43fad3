use Rattle.std.{proofs.Common.{subst, sym}}
use Rattle.igmp_membership.{specs.StaleQueries.HaveRecords, proofs.Going.record_set}
use Rattle.igmp_membership.proofs.membership.Membership.set_source_record.Goals as goal

pub invariant_of-self-2 : goal.invariant_of-self-2
invariant_of-self-2 c = (
  c.self.invariant.0,
  subst (λ t. HaveRecords c.with_key-stale_queries.result t c.self.inside.sendings) (sym c.in_ok-set.ensures)
      (record_set c.self.inside.stale_queries _ c.self.inside.source_records c.self.inside.sendings c.self.invariant.1
      c.source-key.result _ c.source-key.ensures c.args.row c.is_none.result c.is_none.ensures c.with_key-stale_queries.ensures),
)
