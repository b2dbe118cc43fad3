-- When the timers of the rows of a table expire. A row has at most two timers, each of a kind of its own.
use Rattle.std.{specs.Prelude.{ℕ, ◌≡◌, ◌+◌, ◌++◌, ◌==◌, Bool, false, if◌then◌else◌, List, Option, Some, None, length}}
use Rattle.pim_types.{specs.{declared.{fact.Key.Key, timer.{Timer.Timer, TimerKind.TimerKind}}, Keys.same_key, Timers.rank}}
use Rattle.pim_timers.{specs.{Armed.{AreArmed, Entries, IsArmed, IsSettled, holds}, Dues.{Due, IsFirst}}}
use Rattle.pim_model.{specs.{Tables.{Table, change_row, drop_at, row_at}, Timers.{Ending, endings}}}

-- The kind of the first timer, and that of the second if there is one.
abbrev pub Kinds : Type 0
Kinds = TimerKind × Option TimerKind

abbrev pub same_kind : TimerKind → TimerKind → Bool
same_kind a b = rank a == rank b

abbrev pub is_second : Option TimerKind → TimerKind → Bool
is_second None kind = false
is_second (Some second) kind = same_kind kind second

abbrev pub timer_of : TimerKind → Key → Timer
timer_of kind k = record { kind = kind; key = k }

-- How many timers a number of rows has at most.
abbrev pub most_ends : Option TimerKind → ℕ → ℕ
most_ends None n = n
most_ends (Some kind) n = n + n

-- An ending, as a timestamp and a timer.
abbrev pub due_of : Ending → ℕ × Timer
due_of e = (e.end, e.timer)

module _ {R : Type 0} where
  -- What a refused row leaves under its key: what was there, where rows have no second timer, else nothing.
  abbrev pub left_at : Option TimerKind → Table R → Key → Table R
  left_at None rows k = rows
  left_at (Some kind) rows k = drop_at rows k

  -- What is left after the row that was there first is put back, where rows have no second timer.
  abbrev pub back_at : Option TimerKind → Table R → Key → R → Table R
  back_at None rows k before = change_row (λ _. Some before) k rows
  back_at (Some kind) rows k before = drop_at rows k

  -- The second table has the given row, or none, under the key, and under each other key what the first has.
  abbrev pub DifferAt : (rows after : Table R) → Key → Option R → Type 0
  DifferAt rows after k w = (q : Key) → row_at after q ≡ (if same_key q k then w else row_at rows q)

  abbrev pub second_endings : Option TimerKind → (R → Option ℕ) → Table R → List Ending → List Ending
  second_endings None end_of rows first = first
  second_endings (Some kind) end_of rows first = first ++ endings kind end_of rows

  -- When the timers of a row expire, if there is one.
  abbrev pub ends_under : (R → Option ℕ × Option ℕ) → Option R → Option ℕ × Option ℕ
  ends_under ends None = (None, None)
  ends_under ends (Some r) = ends r

  module _ (kinds : Kinds) (ends : R → Option ℕ × Option ℕ) where
    -- The timers that run in the rows.
    unfoldable pub row_endings : Table R → List Ending
    row_endings rows =
        second_endings kinds.1 (λ r. (ends r).1) rows (endings kinds.0 (λ r. (ends r).0) rows)

    -- When the timer of a kind of the row expires, if there is a row.
    abbrev pub end_of : Option R → TimerKind → Option ℕ
    end_of None kind = None
    end_of (Some r) kind =
        if same_kind kind kinds.0 then (ends r).0 else (if is_second kinds.1 kind then (ends r).1 else None)

    -- When each timer expires.
    abbrev pub ends_in : Table R → Timer → Option ℕ
    ends_in rows t = end_of (row_at rows t.key) t.kind

    -- For each timer of the row under the key, if there is one, the queue has an entry at or below its expiry.
    abbrev pub IsRowArmed : (Due → Bool) → Key → Option R → Type 0
    IsRowArmed held k row = (kind : TimerKind) → IsArmed held (timer_of kind k) (end_of row kind)

    -- The queue is settled for the timers of the rows.
    abbrev pub InStep : Entries → Table R → Type 0
    InStep queue rows = IsSettled (ends_in rows) (most_ends kinds.1 (length rows)) queue

    -- The queue is settled for the timers of the rows, except that its first entry may be of the key.
    pub record InStepBeside (queue : Entries) (rows : Table R) (k : Key) : Type 0 where
      pub armed : AreArmed (ends_in rows) (holds queue)
      pub others : (due : Due) → IsFirst (holds queue) (Some due) → same_key due.1.key k ≡ false
          → ends_in rows due.1 ≡ Some due.0
