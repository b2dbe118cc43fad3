use Rattle.std.{proofs.Common.{subst, sym}, specs.{List.Sorted.IsStrictlySortedBy, Ordering.nat_cmp, Prelude.map}}
use Rattle.pim_types.{specs.Keys.source_in}
use Rattle.igmp_membership.{proofs.Rising.sources_rise}
use Rattle.igmp_membership.proofs.membership.Membership.source_records_at.Goals as goal

pub returns-clause-rising : goal.returns-clause-rising
returns-clause-rising c =
    subst (λ t. IsStrictlySortedBy nat_cmp (map (λ e. source_in e.0) t)) (sym c.rows_at.ensures.rows)
    (sources_rise c.args.iface.number c.args.group.bits c.self.inside.source_records c.proof_kind.ensures.fit
    c.proof_kind.ensures.kind c.proof_rising.ensures)
