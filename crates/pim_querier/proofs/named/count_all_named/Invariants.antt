use Rattle.std.{proofs.Common.{◌≡◌, ◌+◌}}
use Rattle.pim_querier.{specs.Reports.named_count}
use Rattle.pim_querier.proofs.named.count_all_named.Given as goal

abbrev pub invariant-loop-group_record : goal.invariant-loop-group_record
invariant-loop-group_record l = l.named + named_count l.group_record-iterator ≡ named_count l.fn.report
