use Rattle.igmp_membership.{proofs.Named.NoneBelow}
use Rattle.igmp_membership.proofs.sendings.Sendings.has_source.Given as goal

abbrev pub invariant-loop-number : goal.invariant-loop-number
invariant-loop-number l = NoneBelow l.name.group.bits l.name.source.bits l.number l.self
