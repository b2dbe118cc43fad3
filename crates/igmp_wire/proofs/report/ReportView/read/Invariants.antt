use Rattle.std.{proofs.Common.{◌≡◌, ◌-◌, ◌≤◌, length}}
use Rattle.igmp_wire.{specs.Reports.records_test}
use Rattle.igmp_wire.proofs.report.ReportView.read.Given as goal

-- the tests of the records that are left are those of all
abbrev pub invariant-loop-index : goal.invariant-loop-index
invariant-loop-index l = record {
  within : l.place ≤ length l.message;
  rest : records_test l.message l.place (l.record_count - l._index) ≡ records_test l.message 8 l.record_count;
}
