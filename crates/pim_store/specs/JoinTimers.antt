-- The Join timers of an index, and the queue of when they expire. No public clause cites this module.
use Rattle.std.{specs.Prelude.{None, Option, Some, false, length, ℕ, ◌≡◌}}
use Rattle.pim_model.{specs.Tables.{Table, row_at}}
use Rattle.pim_source_trie.{specs.Entries.entry_key}
use Rattle.pim_timers.{specs.Armed.{Entries, holds}}
use Rattle.pim_tables.{specs.Ends.{DifferAt, InStep, InStepBeside, IsRowArmed}}
use Rattle.pim_types.{specs.declared.{fact.{JoinTimerRow.JoinTimerRow, Key.Key}, timer.TimerKind.TimerKind}}
use Rattle.pim_store.{specs.{Said.{AreEntries, said, seen, source_bits, timers_in, tunnel_in}, declared.marks.{Mark.Mark, Marks.Marks}}}

-- The queue is settled for all Join timers, or for all but that of the key.
abbrev pub AreTimersInStep : Entries → Table Marks → Type 0
AreTimersInStep ends all =
    InStep (TimerKind.Join, None) (λ (r : JoinTimerRow). (Some r.end, None)) ends (timers_in all)

abbrev pub AreTimersBeside : Entries → Table Marks → Key → Type 0
AreTimersBeside ends all k =
    InStepBeside (TimerKind.Join, None) (λ (r : JoinTimerRow). (Some r.end, None)) ends (timers_in all) k

-- The entries of groups and sources are well formed, the queue is in step with their Join timers, and `count` is their
-- number.
pub record AreKept (all : Table Marks) (ends : Entries) (count : ℕ) : Type 0 where
  pub entries : AreEntries all
  pub in_step : AreTimersInStep ends all
  pub counted : count ≡ length (timers_in all)

-- The queue borrows the entries of groups and sources, with `count` Join timers.
pub record AreLent (all : Table Marks) (count : ℕ) : Type 0 where
  pub entries : AreEntries all
  pub counted : count ≡ length (timers_in all)

-- The marks are those of the entry of a key's group, or of its source.
pub record IsThere (all : Table Marks) (k : Key) (m : Marks) : Type 0 where
  pub as_said : (x : Mark) (i : ℕ) → seen x m i ≡ said all x i k.group.bits (source_bits k.source)
  pub bare : (x : Mark) → tunnel_in x m ≡ false
  pub timer : m.join_timer ≡ row_at (timers_in all) (entry_key k.group k.source)

-- The queue has an entry at or below when the Join timer under the key expires, if there is one.
abbrev pub IsTimerArmed : Entries → Key → Option JoinTimerRow → Type 0
IsTimerArmed ends = IsRowArmed (TimerKind.Join, None) (λ (r : JoinTimerRow). (Some r.end, None)) (holds ends)

-- Of the timers that differ from those that the queue was in step with, only the first may be of the key.
abbrev pub GivesBeside : (before after : Entries) → Key → Type 0
GivesBeside before after k =
    (rows changed : Table JoinTimerRow) (w : Option JoinTimerRow)
    → InStep (TimerKind.Join, None) (λ (r : JoinTimerRow). (Some r.end, None)) before rows → DifferAt rows changed k w
    → IsTimerArmed after k w
    → InStepBeside (TimerKind.Join, None) (λ (r : JoinTimerRow). (Some r.end, None)) after changed k
