-- A queue of timestamps in which a timer may have been set to expire later: each timer that runs has an entry at or
-- before its timestamp.
use Rattle.std.{specs.{Prelude.{◌≡◌, ℕ, ◌≤◌, ◌+◌, ◌*◌, Bool, true, Option, Some, List, length}, List.list_any, declared.cmp.Reverse.Reverse}}
use Rattle.pim_types.{specs.declared.timer.Timer.Timer}
use Rattle.pim_timers.{specs.Dues.{Due, IsFirst, same_due}}

-- the entries, and how many more there is room for
pub record Entries : Type 0 where
  pub dues : List (Reverse Due)
  pub room : ℕ

-- the due is one of the entries
unfoldable pub holds : Entries → Due → Bool
holds queue d = list_any (λ e. same_due d e.0) queue.dues

-- If the timer runs, the queue has an entry of it at or before its expiry.
abbrev pub IsArmed : (Due → Bool) → Timer → Option ℕ → Type 0
IsArmed held timer end = (m : ℕ) → end ≡ Some m → (e : ℕ) × (e ≤ m) × (held (e, timer) ≡ true)

-- Each timer that runs has an entry at or before its timestamp.
abbrev pub AreArmed : (Timer → Option ℕ) → (Due → Bool) → Type 0
AreArmed end_of held = (t : Timer) → IsArmed held t (end_of t)

-- The first entry, if there is one, is up to date.
abbrev pub IsReal : (Timer → Option ℕ) → (Due → Bool) → Type 0
IsReal end_of held = (due : Due) → IsFirst held (Some due) → end_of due.1 ≡ Some due.0

-- what is held before is held after
abbrev pub Grows : (before after : Due → Bool) → Type 0
Grows before after = (d : Due) → before d ≡ true → after d ≡ true

-- The queue is settled: each timer that runs is armed, the first entry is right, and there are at most twice as many
-- entries as timers can run, and 64.
pub record IsSettled (end_of : Timer → Option ℕ) (most : ℕ) (queue : Entries) : Type 0 where
  pub armed : AreArmed end_of (holds queue)
  pub real : IsReal end_of (holds queue)
  pub few : length queue.dues ≤ 2 * most + 64
