use Rattle.std.{proofs.Common.{filter, not}}
use Rattle.pim_model.{specs.Querier.{is_skipped, record_seen}}
use Rattle.pim_querier.{specs.Looking.ListsLate, proofs.InTurn.Comes}
use Rattle.pim_querier.proofs.report.report_seen.Given as goal

abbrev pub invariant-loop-group_record : goal.invariant-loop-group_record
invariant-loop-group_record l =
    Comes (record_seen l.iface.number) l.fn.world l.fn.turn (filter (λ r. not (is_skipped r)) l.fn.report) l.world l.turn
    (filter (λ r. not (is_skipped r)) l.group_record-iterator)
    × ListsLate l.iface.number l.looked.end l.looked.groups.items l.looked.late.items l.world.source_records
