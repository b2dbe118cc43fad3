use Rattle.std.{proofs.Common.{◌≡◌, ◌+◌, length}}
use Rattle.pim_querier.proofs.named.count_named.Given as goal

abbrev pub invariant-loop-source : goal.invariant-loop-source
invariant-loop-source l = l.named + length l._source-iterator ≡ l.before + length l.group_record.sources
