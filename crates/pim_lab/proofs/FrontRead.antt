-- What a listener knows in front of a router's bytes is read again.
use Rattle.std.{proofs.Common.{◌≡◌, ◌∙◌, ℕ, List, ◌++◌, Some, Ok, ap, append_assoc, arith}}
use Rattle.pim_saved.{specs.{Fits.{FitsByte, FitsList}, Reading.{byte_at, list_at, word_at}, Text.{byte_text, list_text, word_text}}, proofs.Spelled.{IsSpelled, byte, list, word}}
use Rattle.pim_bsr.{specs.{Reading.restored, Table.Known, Text.known_text}}
use Rattle.pim_lab.{specs.Kept.{before, behind_word, front_text, kept_text, opened, opened_by, restored_from, tag}}

bytes : IsSpelled (FitsList FitsByte) (list_text byte_text) (list_at byte_at)
bytes = list byte

pub kept_is_opened : (k : Known) (router : List ℕ) → FitsList FitsByte (known_text k) → restored (known_text k) ≡ Ok k
    → opened (kept_text (Some k) router) ≡ Ok (Some k, router)
unfolding opened front_text
kept_is_opened k router fits again =
    let rest : List ℕ = list_text byte_text (known_text k) ++ router in
    let first : word_at (word_text tag ++ rest) ≡ Ok (tag, rest) = word.again tag rest (omega arith) in
    let second : list_at byte_at rest ≡ Ok (known_text k, router) = bytes.again (known_text k) router fits in
    ap (λ (b : List ℕ). opened_by b (behind_word (word_at b))) (append_assoc (word_text tag) (list_text byte_text (known_text k)) router)
    ∙ ap (λ w. opened_by (word_text tag ++ rest) (behind_word w)) first ∙ ap restored_from second ∙ ap (before router) again
