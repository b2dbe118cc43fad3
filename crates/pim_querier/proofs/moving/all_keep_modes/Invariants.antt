use Rattle.std.{proofs.Common.{◌≡◌, filter, not}, specs.List.list_all}
use Rattle.pim_model.{specs.Querier.is_skipped}
use Rattle.pim_querier.{specs.Reports.keeps_mode}
use Rattle.pim_querier.proofs.moving.all_keep_modes.Given as goal

abbrev pub invariant-loop-group_record : goal.invariant-loop-group_record
invariant-loop-group_record l =
    list_all (keeps_mode l.world l.iface.number) (filter (λ r. not (is_skipped r)) l.group_record-iterator)
    ≡ list_all (keeps_mode l.world l.iface.number) (filter (λ r. not (is_skipped r)) l.fn.report)
