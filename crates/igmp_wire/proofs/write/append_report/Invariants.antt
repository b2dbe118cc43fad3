use Rattle.std.{proofs.Common.{◌≡◌, ◌++◌, take, flat_map}}
use Rattle.igmp_wire.{specs.{Reports.record_text, Written.records_of}}
use Rattle.igmp_wire.proofs.write.append_report.Given as goal

abbrev pub invariant-loop-group_record : goal.invariant-loop-group_record
invariant-loop-group_record l =
    l.out.items ≡ l.initial.out.items ++ flat_map record_text (records_of (take l.group_record-index l.records))
