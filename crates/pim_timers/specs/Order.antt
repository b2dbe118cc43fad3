-- The order in which timers fall due.
use Rattle.std.{specs.{Prelude.ℕ, declared.cmp.Ordering.Ordering, Ordering.{ordering_then, nat_cmp}}}
use Rattle.pim_types.{specs.{declared.timer.Timer.Timer, Timers.timer_cmp}}

-- The order of dues: by timestamp, then by timer.
unfoldable pub due_cmp : ℕ × Timer → ℕ × Timer → Ordering
due_cmp a b = ordering_then (nat_cmp a.0 b.0) (timer_cmp a.1 b.1)
