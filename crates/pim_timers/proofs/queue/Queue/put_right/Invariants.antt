use Rattle.std.{proofs.Common.{◌≤◌, length, not}, specs.List.count_by}
use Rattle.pim_timers.{specs.{Armed.{AreArmed, holds}, Ends.ends_at}}
use Rattle.pim_timers.proofs.queue.Queue.put_right.Given as goal

abbrev pub invariant-loop-first : goal.invariant-loop-first
invariant-loop-first g l = record {
  armed : AreArmed (g.S.Schedule.end_of l.schedule) (holds l.self);
  few : length l.self.dues ≤ length l.fn.self.dues;
}

abbrev pub decreases-loop-first : goal.decreases-loop-first
decreases-loop-first g l = count_by (λ e. not (ends_at (g.S.Schedule.end_of l.schedule e.0.1) e.0.0)) l.self.dues
