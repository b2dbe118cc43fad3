-- What was saved is taken again, and whatever bytes are taken, what is known is sound.
use Rattle.std.{proofs.{Common.{◌≡◌, Bool, true, false, nat_le, List, map, Result, Ok, Err, refl, subst, arith}, lemmas.Bool.Decides.nat_tests}, specs.List.list_all}
use Rattle.pim_types.{specs.declared.config.RpRange.RpRange}
use Rattle.pim_model.{specs.Limits.is_rp_range}
use Rattle.pim_saved.{specs.declared.refusal.SavedRefusal.SavedRefusal}
use Rattle.pim_bsr.{specs.{Reading.{are_sound, is_sound, known_reading, restored, restored_if, restored_of}, Saved.{RestoredIsSound, SavedIsRestored}, Sound.{AreSound, IsSound, are_apart, has_mask}, Table.{Known, kept_count, part_range, range_of, room}}, proofs.{Lists.{and_both, and_first, and_second}, Spelled.known_text_is_read}}

-- ---- the test is of what is sound

ranges_sound : (rs : List RpRange) → are_sound rs ≡ true → AreSound rs
ranges_sound rs e = record {
  each = and_first (list_all is_rp_range rs) (are_apart rs) e;
  apart = and_second (list_all is_rp_range rs) (are_apart rs) e;
}

ranges_pass : (rs : List RpRange) → AreSound rs → are_sound rs ≡ true
ranges_pass rs h = and_both (list_all is_rp_range rs) (are_apart rs) h.each h.apart

pub sound_of : (k : Known) → is_sound k ≡ true → IsSound k
unfolding is_sound
sound_of k e =
    let few : nat_le (kept_count k.table) (room k) ≡ true = and_first (nat_le (kept_count k.table) (room k)) _ e in
    let tested = and_second (nat_le (kept_count k.table) (room k)) _ e in
    let both = and_second (list_all has_mask k.table.rps) _ tested in
    record {
      masks = and_first (list_all has_mask k.table.rps) _ tested;
      rps = ranges_sound (map range_of k.table.rps) (and_first (are_sound (map range_of k.table.rps)) _ both);
      parts = ranges_sound (map part_range k.table.parts) (and_second (are_sound (map range_of k.table.rps)) _ both);
      kept = grind (arith, nat_tests, few);
    }

pub sound_passes : (k : Known) → IsSound k → is_sound k ≡ true
unfolding is_sound
sound_passes k h =
    let kept = h.kept in
    let few : nat_le (kept_count k.table) (room k) ≡ true = grind (arith, nat_tests, kept) in
    and_both (nat_le (kept_count k.table) (room k)) _ few
    (and_both (list_all has_mask k.table.rps) _ h.masks
    (and_both (are_sound (map range_of k.table.rps)) _ (ranges_pass (map range_of k.table.rps) h.rps)
    (ranges_pass (map part_range k.table.parts) h.parts)))

-- ---- laws

pub saved_is_restored : SavedIsRestored
unfolding restored
saved_is_restored k fits h = rw (known_text_is_read k fits, sound_passes k h) refl

restored_sound : (k l : Known) (b : Bool) → is_sound k ≡ b → restored_if b k ≡ Ok l → IsSound l
restored_sound k l true is e = let same : k ≡ l = cc in subst (λ (z : Known). IsSound z) same (sound_of k is)
restored_sound k l false is e = absurd cc

by_reading : (r : Result Known SavedRefusal) (l : Known) → restored_of r ≡ Ok l → IsSound l
by_reading (Ok k) l e = restored_sound k l (is_sound k) refl e
by_reading (Err refusal) l e = absurd cc

pub restored_is_sound : RestoredIsSound
unfolding restored
restored_is_sound bytes l e = by_reading (known_reading bytes) l e
