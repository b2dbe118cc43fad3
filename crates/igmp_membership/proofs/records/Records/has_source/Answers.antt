use Rattle.std.{proofs.Common.◌∙◌}
use Rattle.igmp_membership.{proofs.{Named.told_by_set, Walked.{near_records, plain_records}}}
use Rattle.igmp_membership.proofs.records.Records.has_source.Goals as goal

pub returns-clause-any : goal.returns-clause-any
returns-clause-any g c =
    told_by_set c.args.name.group.bits c.args.name.source.bits 120 c.args.self.now c.proof_rising.ensures
    (plain_records c.args.self.now c.proof_kind.ensures.fit) (near_records c.args.self.now c.proof_kind.ensures.fit)
    c.is_empty.result _ _ c.is_empty.ensures c.without_tunnel.ensures.tunnel
    (λ i. c.without_tunnel.ensures.interfaces i ∙ c.listed-listed.ensures.there i)
