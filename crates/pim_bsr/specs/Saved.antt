-- What a listener knows and its bytes determine each other, and of whatever bytes it is sound.
use Rattle.std.{specs.Prelude.{◌≡◌, ℕ, List, Ok}}
use Rattle.pim_saved.{specs.Laws.AreBytes}
use Rattle.pim_bsr.{specs.{Reading.{known_reading, restored}, Sound.{HavePriorities, IsSound}, Table.Known, Text.{FitsKnown, known_text}}}

-- the text of what is known is read as this
abbrev pub KnownTextIsRead : Type 0
KnownTextIsRead = (k : Known) → FitsKnown k → known_reading (known_text k) ≡ Ok k

-- what is read has the bytes as its one text
abbrev pub KnownReadingIsText : Type 0
KnownReadingIsText =
    (bytes : List ℕ) (k : Known) → AreBytes bytes → known_reading bytes ≡ Ok k → (known_text k ≡ bytes) × FitsKnown k

-- What a listener knew that was saved is what one knows that is made of the bytes.
abbrev pub SavedIsRestored : Type 0
SavedIsRestored = (k : Known) → FitsKnown k → IsSound k → restored (known_text k) ≡ Ok k

-- Whatever bytes a listener is made of, what it knows is sound.
abbrev pub RestoredIsSound : Type 0
RestoredIsSound = (bytes : List ℕ) (k : Known) → restored bytes ≡ Ok k → IsSound k

-- Whatever bytes they are, the priorities of what it knows are bytes too.
abbrev pub RestoredHavePriorities : Type 0
RestoredHavePriorities = (bytes : List ℕ) (k : Known) → AreBytes bytes → restored bytes ≡ Ok k → HavePriorities k.table
