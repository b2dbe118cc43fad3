use Rattle.pim_querier.{proofs.Naming.Names}
use Rattle.pim_querier.proofs.named.reported.Given as goal

abbrev pub invariant-loop-group_record : goal.invariant-loop-group_record
invariant-loop-group_record l =
    Names l.iface.number l.fn.report l.groups.items l.sources.items l.group_record-iterator
