-- Rows of which there are some, or none.
use Rattle.std.{proofs.{Common.{◌≡◌, ◌∙◌, ℕ, Bool, true, false, eqb, List, [], ◌∷◌, ◌++◌, length, refl, sym, arith}, lemmas.Bool.eqb-true}}
use Rattle.pim_model.{specs.Tables.Table}
use Rattle.igmp_older_saved.{specs.{declared.host.HostRow.HostRow, Text.{hosts_text, summed, text_with}}}

pub with_none : (hosts : Table HostRow) (bytes : List ℕ) (b : Bool) → b ≡ eqb (length hosts) 0 → b ≡ true → text_with hosts bytes ≡ bytes
unfolding text_with
with_none [] bytes b is none = refl
with_none (e ∷ more) bytes b is none = absurd (omega (arith, eqb-true (length (e ∷ more)) 0 (sym is ∙ none)))

pub with_some : (hosts : Table HostRow) (bytes : List ℕ) (b : Bool) → b ≡ eqb (length hosts) 0 → b ≡ false
    → text_with hosts bytes ≡ summed (hosts_text hosts ++ bytes)
unfolding text_with
with_some [] bytes b is some = let no : true ≡ false = sym is ∙ some in absurd cc
with_some (e ∷ more) bytes b is some = refl
