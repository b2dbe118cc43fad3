use Rattle.std.{proofs.Common.{◌≡◌, ◌++◌}}
use Rattle.igmp_wire.{specs.Written.bits_of}
use Rattle.pim_querier.proofs.report.sources_of.Given as goal

abbrev pub invariant-loop-source : goal.invariant-loop-source
invariant-loop-source l = bits_of l.sources.items ++ l.source-iterator ≡ l.fn.group_record.sources
