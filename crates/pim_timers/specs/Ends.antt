-- Which timers are the same, and when a timer expires.
use Rattle.std.{specs.{Prelude.{ℕ, Bool, false, ◌==◌, Option, Some, None}, Ordering.eq_by_cmp}}
use Rattle.pim_types.{specs.{declared.timer.Timer.Timer, Timers.timer_cmp}}

-- the two timers are one
unfoldable pub same_timer : Timer → Timer → Bool
same_timer t u = eq_by_cmp timer_cmp t u

-- The timer runs, and expires at the timestamp.
unfoldable pub ends_at : Option ℕ → ℕ → Bool
ends_at None moment = false
ends_at (Some end) moment = moment == end
