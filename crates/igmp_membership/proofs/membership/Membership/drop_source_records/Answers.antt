use Rattle.std.{proofs.Common.{subst, sym}}
use Rattle.pim_model.{specs.Records.is_at_group}
use Rattle.igmp_membership.{specs.StaleQueries.HaveRecords, proofs.Going.records_gone}
use Rattle.igmp_membership.proofs.membership.Membership.drop_source_records.Goals as goal

pub invariant_of-self : goal.invariant_of-self
invariant_of-self c = (
  c.self.invariant.0,
  subst (λ t. HaveRecords c.with_group-self-inside.result t c.self.inside.sendings) (sym c.drop_group.ensures)
      (records_gone c.self.inside.stale_queries _ c.self.inside.source_records c.self.inside.sendings c.self.invariant.1
      (is_at_group c.args.iface.number c.args.group.bits) c.with_group-self-inside.ensures),
)
