-- Bytes that were read, without where they lie.
use Rattle.std.{specs.{Borrow.Bor, Prelude.{ℕ, List, Result, Ok, Err}}}
use Rattle.pim_saved.{specs.declared.refusal.SavedRefusal.SavedRefusal}

abbrev pub bytes_of : Result (Bor (List ℕ)) SavedRefusal → Result (List ℕ) SavedRefusal
bytes_of (Ok bytes) = Ok bytes.now
bytes_of (Err refusal) = Err refusal
