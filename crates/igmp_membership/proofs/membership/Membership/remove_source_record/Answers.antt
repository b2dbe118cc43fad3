use Rattle.std.{proofs.Common.{subst, sym}}
use Rattle.igmp_membership.{specs.StaleQueries.HaveRecords, proofs.Going.record_removed}
use Rattle.igmp_membership.proofs.membership.Membership.remove_source_record.Goals as goal

pub invariant_of-self : goal.invariant_of-self
invariant_of-self c = (
  c.self.invariant.0,
  subst (λ t. HaveRecords c.with_key-self-inside.result t c.self.inside.sendings) (sym c.remove.ensures)
      (record_removed c.self.inside.stale_queries _ c.self.inside.source_records c.self.inside.sendings c.self.invariant.1
      c.source-key.result _ c.source-key.ensures c.with_key-self-inside.ensures),
)
