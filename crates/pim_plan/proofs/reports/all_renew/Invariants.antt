use Rattle.std.{proofs.Common.◌≡◌, specs.List.list_all}
use Rattle.pim_plan.{specs.Renewing.renews}
use Rattle.pim_plan.proofs.reports.all_renew.Given as goal

abbrev pub invariant-loop-group_record : goal.invariant-loop-group_record
invariant-loop-group_record l =
    list_all (renews l.world l.iface.number) l.group_record-iterator ≡ list_all (renews l.world l.iface.number) l.fn.report
