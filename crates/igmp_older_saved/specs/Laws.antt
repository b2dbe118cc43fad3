-- A router's state with its groups of older hosts and its bytes determine each other, and what is saved is taken again.
use Rattle.std.{specs.Prelude.{◌≡◌, ℕ, List, Ok}}
use Rattle.pim_types.{specs.declared.fact.GroupRecordRow.GroupRecordRow}
use Rattle.pim_model.{specs.{State.State, Tables.Table}}
use Rattle.pim_saved.{specs.Laws.AreBytes}
use Rattle.law_settled.{specs.Ready.Rises}
use Rattle.pim_worlds.{specs.Resuming.IsResumable}
use Rattle.igmp_older.{specs.{Presence.put_rows, declared.mode.PresentRow.PresentRow}}
use Rattle.igmp_older_saved.{specs.{Hosts.{resumed_rows, saved_hosts}, Reading.{held_reading, held_test}, Text.{Held, held_text, FitsHeld}}}

-- the text of a state with rows of older hosts is read as these
abbrev pub HeldTextIsRead : Type 0
HeldTextIsRead = (h : Held) → FitsHeld h → held_reading (held_text h) ≡ Ok h

-- what is read has the bytes as its one text
abbrev pub HeldReadingIsText : Type 0
HeldReadingIsText = (bytes : List ℕ) (h : Held) → AreBytes bytes → held_reading bytes ≡ Ok h → (held_text h ≡ bytes) × FitsHeld h

-- a state that a router goes on from passes all tests with the rows that are saved with it
abbrev pub SavedHostsAreHeld : Type 0
SavedHostsAreHeld =
    (s : State) (rows : Table PresentRow) → IsResumable s
    → held_test (record { hosts = saved_hosts s.group_records s.present rows; state = s }) ≡ Ok tt

-- What was saved is resumed: of the rows that a front takes, the same are saved at once.
abbrev pub HostsAreResumed : Type 0
HostsAreResumed =
    (groups : Table GroupRecordRow) (now : ℕ) (rows : Table PresentRow) → Rises rows
    → saved_hosts groups now (put_rows (resumed_rows (saved_hosts groups now rows))) ≡ saved_hosts groups now rows
