-- What a call leaves as it was, and what it writes out to C.
use Rattle.std.{specs.Prelude.{Bool, List, None, Option, Some, false, true, ℕ, ◌≡◌}}

-- A call answers this number, and nothing is changed.
pub record Untouched {S : Type 0} (number : ℕ) (old : S) (answer : ℕ) (left : S) : Type 0 where
  pub answers : answer ≡ number
  pub stays : left ≡ old

-- A call answers this number, and no byte is written, nor how many there are.
pub record NoBytesWritten (number answer size written : ℕ) (room filled : List ℕ) : Type 0 where
  pub answers : answer ≡ number
  pub size_stays : written ≡ size
  pub room_stays : filled ≡ room

-- Nothing is written out: what C gave to be written is as it was.
pub record Unwritten {T : Type 0} (is_there : Bool) (out written : T) : Type 0 where
  pub is_none : is_there ≡ false
  pub stays : written ≡ out

-- A value that exists is written out as C reads it.
abbrev pub ValueWritten : {V T : Type 0} → (V → T) → Option V → Bool → T → T → Type 0
ValueWritten read None is_there out written = Unwritten is_there out written
ValueWritten read (Some v) is_there out written = (is_there ≡ true) × (written ≡ read v)
