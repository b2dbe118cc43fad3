use Rattle.std.{proofs.Common.{length, ◌++◌}}
use Rattle.pim_querier.{proofs.Parts.Puts, specs.Queries.{all_queries, asking}}
use Rattle.igmp_wire.{specs.Written.bits_of}
use Rattle.pim_querier.proofs.queries.put_queries.Given as goal

abbrev pub invariant-loop-left : goal.invariant-loop-left
invariant-loop-left l =
    Puts l.iface.number l.header
    (l.fn.out ++ all_queries (asking l.iface.number l.header) (bits_of l.fn.sources)) l.out l.left

abbrev pub decreases-loop-left : goal.decreases-loop-left
decreases-loop-left l = length l.left
