-- A record and its bytes determine each other, whatever follows, and so do a whole recording and its bytes.
use Rattle.std.{specs.{List.{AllByRecursion, flat_map}, Prelude.{List, Ok, ◌++◌, ◌≡◌, ℕ}}}
use Rattle.pim_saved.{specs.Laws.AreBytes}
use Rattle.pim_saver.{specs.{Fits.FitsRecord, Reading.record_at, Records.{Record, record_text}}}

-- what is read from the front is the record that was written, and what followed it
abbrev pub RecordIsRead : Type 0
RecordIsRead = (r : Record) (rest : List ℕ) → FitsRecord r → record_at (record_text r ++ rest) ≡ Ok (r, rest)

-- what is read as a record is its text, so that a record has one text
abbrev pub ReadingIsRecord : Type 0
ReadingIsRecord = (bytes rest : List ℕ) (r : Record) → AreBytes bytes → record_at bytes ≡ Ok (r, rest)
    → (bytes ≡ record_text r ++ rest) × FitsRecord r

-- two recordings of the same bytes are the same
abbrev pub OneRecording : Type 0
OneRecording = (rs qs : List Record) → AllByRecursion FitsRecord rs → AllByRecursion FitsRecord qs
    → flat_map record_text rs ≡ flat_map record_text qs → rs ≡ qs
