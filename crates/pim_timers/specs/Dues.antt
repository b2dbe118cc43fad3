-- Dues: timestamps, each with a timer that expires then. A collection of them is seen as a test.
use Rattle.std.{specs.{Prelude.{◌≡◌, ℕ, Bool, true, false, List, Option, Some, None}, List.list_any, Ordering.{is_eq, is_lt}}}
use Rattle.pim_types.{specs.declared.timer.Timer.Timer}
use Rattle.pim_timers.{specs.{Ends.ends_at, Order.due_cmp}}

abbrev pub Due : Type 0
Due = ℕ × Timer

-- the two dues are one
unfoldable pub same_due : Due → Due → Bool
same_due d e = is_eq (due_cmp d e)

-- the due is one of the list
unfoldable pub is_among : List Due → Due → Bool
is_among dues d = list_any (same_due d) dues

-- the first of the dues that are held, or nothing where none is
abbrev pub IsFirst : (Due → Bool) → Option Due → Type 0
IsFirst holds None = (d : Due) → holds d ≡ false
IsFirst holds (Some due) = (holds due ≡ true) × ((d : Due) → holds d ≡ true → is_lt (due_cmp d due) ≡ false)

-- The dues that are held are the timestamps of the timers that run.
abbrev pub AreTogether : (Timer → Option ℕ) → (Due → Bool) → Type 0
AreTogether end_of holds =
    (moment : ℕ) (timer : Timer) → holds (moment, timer) ≡ ends_at (end_of timer) moment
