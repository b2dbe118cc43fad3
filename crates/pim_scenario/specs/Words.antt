-- The words of a text.
use Rattle.std.{specs.{Prelude.{◌≡◌, ◌<◌, ◌++◌, ℕ, List, [], ◌∷◌, length}, Char.{is_whitespace, is_not_whitespace}, Str.{NoCharPasses, EmptyOrStartsWithPassing}}}

-- the text is white space, the word, and the rest, which is empty or begins with white space
pub record IsNextWord (text word rest : List ℕ) : Type 0 where
  pub gap : List ℕ
  pub split : text ≡ gap ++ (word ++ rest)
  pub some : 0 < length word
  pub blank : NoCharPasses is_not_whitespace gap
  pub whole : NoCharPasses is_whitespace word
  pub after : (later : List ℕ) × EmptyOrStartsWithPassing is_whitespace rest later

-- the text is these words, with white space between them, before and after
abbrev pub AreWords : List ℕ → List (List ℕ) → Type 0
AreWords text [] = NoCharPasses is_not_whitespace text
AreWords text (word ∷ words) = (rest : List ℕ) × IsNextWord text word rest × AreWords rest words
