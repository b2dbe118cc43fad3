use Rattle.std.{proofs.Common.{◌≤◌, ◌+◌, length}, specs.Map.lookup}
use Rattle.pim_timers.{specs.Armed.holds, proofs.{Armed.Owes, Entries.tied}}
use Rattle.std.specs.FinMap as map
use Rattle.pim_timers.proofs.moments.MomentsSchedule.arm_all.Given as goal

abbrev pub invariant-loop-timer : goal.invariant-loop-timer
invariant-loop-timer l = record {
  owes : Owes (map.get l.self) (λ t. lookup (tied t) l.timer-iterator) (holds l.queue);
  room : length l.timer-iterator ≤ l.queue.room;
  few : length l.queue.dues + length l.timer-iterator ≤ map.len l.self + length l.fn.queue.dues;
}
