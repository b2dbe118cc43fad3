-- Which timer is next. Timers are seen as a function to when each expires.
use Rattle.std.{specs.{Prelude.{◌≡◌, ◌<◌, ℕ, Option, Some, None, false}, Ordering.is_lt}}
use Rattle.pim_types.{specs.declared.timer.Timer.Timer}
use Rattle.pim_timers.{specs.Order.due_cmp}

-- The timer expires at the timestamp, and none comes before it.
pub record IsLeast (end_of : Timer → Option ℕ) (due : ℕ × Timer) : Type 0 where
  pub is_set : end_of due.1 ≡ Some due.0
  pub none_before : (timer : Timer) (moment : ℕ) → end_of timer ≡ Some moment
      → is_lt (due_cmp (moment, timer) due) ≡ false

-- the least of the timers that are set, or nothing where none is
abbrev pub IsNext : (Timer → Option ℕ) → Option (ℕ × Timer) → Type 0
IsNext end_of None = (timer : Timer) → end_of timer ≡ None
IsNext end_of (Some due) = IsLeast end_of due

-- At most one timer is the next to expire.
abbrev pub OneIsNext : Type 0
OneIsNext =
    (end_of : Timer → Option ℕ) (first second : Option (ℕ × Timer)) → IsNext end_of first → IsNext end_of second
    → first ≡ second

-- Each timer that is set expires after the timestamp.
abbrev pub EndAfter : (Timer → Option ℕ) → ℕ → Type 0
EndAfter end_of moment = (timer : Timer) (end : ℕ) → end_of timer ≡ Some end → moment < end
