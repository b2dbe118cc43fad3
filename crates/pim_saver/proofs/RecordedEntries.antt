-- The sum of packets, packet after packet.
use Rattle.std.{proofs.{Common.{◌≡◌, ℕ, List, [], ◌∷◌, ◌++◌, refl, sym, ap, ◌∙◌}, lemmas.List.Concat.flat_map-cons}, specs.List.flat_map}
use Rattle.pim_types.{specs.declared.outcome.Emission.Emission}
use Rattle.pim_saved.{specs.Crc.{after_bytes, with_byte}}
use Rattle.pim_saver.{specs.Records.{after_sent, emission_text}}

-- ---- bytes one behind the other

pub after_both : (xs : List ℕ) (c : ℕ) (ys : List ℕ) → after_bytes c (xs ++ ys) ≡ after_bytes (after_bytes c xs) ys
after_both [] c ys = refl
after_both (x ∷ xs) c ys = after_both xs (with_byte c x) ys

pub after_emission : (c : ℕ) (e : Emission) (es : List Emission) → after_bytes c (flat_map emission_text (e ∷ es)) ≡ after_bytes (after_bytes c (emission_text e)) (flat_map emission_text es)
after_emission c e es = ap (after_bytes c) (flat_map-cons emission_text e es) ∙ after_both (emission_text e) c (flat_map emission_text es)

pub after_sent_is : (sent : List Emission) (c : ℕ) → after_sent c sent ≡ after_bytes c (flat_map emission_text sent)
after_sent_is [] c = refl
after_sent_is (e ∷ sent) c = after_sent_is sent (after_bytes c (emission_text e)) ∙ sym (after_emission c e sent)
