use Rattle.std.{proofs.Common.{subst, sym}}
use Rattle.igmp_membership.{specs.StaleQueries.HaveRecords, proofs.Going.record_changed}
use Rattle.igmp_membership.proofs.membership.Membership.change_source_record.Goals as goal

pub invariant_of-self-2 : goal.invariant_of-self-2
invariant_of-self-2 c = (
  c.self.invariant.0,
  subst (λ t. HaveRecords c.self.inside.stale_queries t c.self.inside.sendings) (sym c.in_ok-change.ensures.to)
      (record_changed c.self.inside.stale_queries c.self.inside.source_records c.self.inside.sendings c.args.key c.args.row
      c.self.invariant.1),
)
