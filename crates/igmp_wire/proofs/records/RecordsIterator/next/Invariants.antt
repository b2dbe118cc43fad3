use Rattle.std.{proofs.Common.{◌≡◌, Ok}}
use Rattle.igmp_wire.{specs.Reports.{records_at, records_test}}
use Rattle.igmp_wire.proofs.records.RecordsIterator.next.Given as goal

-- what was passed over is skipped
abbrev pub invariant-loop-self : goal.invariant-loop-self
invariant-loop-self l =
    let now = l.self-inside in
    let start = l.initial.self-inside in
    record {
      same : records_at now.message.now now.place now.left ≡ records_at start.message.now start.place start.left;
      tested : records_test now.message.now now.place now.left ≡ Ok tt;
    }

abbrev pub decreases-loop-self : goal.decreases-loop-self
decreases-loop-self l = l.self-inside.left
