use Rattle.std.{proofs.Common.{◌≡◌, length}}
use Rattle.pim_store.{specs.Said.timers_in}
use Rattle.pim_store.proofs.join_timers.JoinTimerRowsIterator.next.Given as goal

abbrev pub invariant-loop-key : goal.invariant-loop-key
invariant-loop-key l = timers_in l.self-inside.entries ≡ timers_in l.initial.self-inside.entries

abbrev pub decreases-loop-key : goal.decreases-loop-key
decreases-loop-key l = length l.self-inside.entries
