use Rattle.std.{proofs.Common.{◌≤◌, ◌+◌, None, Some, length}}
use Rattle.pim_timers.{specs.Armed.holds}
use Rattle.pim_types.{specs.declared.{fact.JoinTimerRow.JoinTimerRow, timer.TimerKind.TimerKind}}
use Rattle.pim_tables.{proofs.Steps.RowsOwed}
use Rattle.pim_store.proofs.join_timers.LentReadRowsJoinTimerRow.arm_all.Given as goal

abbrev pub invariant-loop-key : goal.invariant-loop-key
invariant-loop-key l = record {
  owes : RowsOwed (TimerKind.Join, None) (λ (r : JoinTimerRow). (Some r.end, None)) l.self l.key-iterator (holds l.queue);
  room : length l.key-iterator ≤ l.queue.room;
  few : length l.queue.dues + length l.key-iterator ≤ length l.self + length l.fn.queue.dues;
}
