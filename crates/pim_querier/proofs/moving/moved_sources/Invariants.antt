use Rattle.std.{proofs.Common.{◌≡◌, ◌++◌}}
use Rattle.pim_querier.{specs.Reports.moved_sources}
use Rattle.pim_querier.proofs.moving.moved_sources.Given as goal

abbrev pub invariant-loop-group_record : goal.invariant-loop-group_record
invariant-loop-group_record l =
    l.keys.items ++ moved_sources l.world l.iface.number l.group_record-iterator
    ≡ moved_sources l.world l.iface.number l.fn.report
