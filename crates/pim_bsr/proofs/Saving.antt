-- What is read of bytes has priorities that are bytes.
use Rattle.std.{proofs.{Common.{◌≡◌, Bool, true, false, nat_le, List, [], ◌∷◌, Result, Ok, Err, refl, arith}, lemmas.Bool.Decides.nat_tests}, specs.List.{AllByRecursion, list_all}}
use Rattle.pim_saved.{specs.{Fits.FitsByte, declared.refusal.SavedRefusal.SavedRefusal}}
use Rattle.pim_bsr.{specs.{Reading.{is_sound, known_reading, restored, restored_if, restored_of}, Saved.RestoredHavePriorities, Sound.HavePriorities, Table.{Known, Table}, Text.{FitsLearned, FitsPart, FitsTable}, declared.learned.{Learned.Learned, Part.Part}}, proofs.{Lists.and_both, Spelled.known_reading_is_text}}

rps_low : (ls : List Learned) → AllByRecursion FitsLearned ls → list_all (λ (l : Learned). nat_le l.priority 255) ls ≡ true
rps_low [] fits = refl
rps_low (l ∷ ls) fits =
    let byte : FitsByte l.priority = fits.0.1.1.1.0 in
    and_both (nat_le l.priority 255) _ (grind (arith, nat_tests, byte)) (rps_low ls fits.1)

parts_low : (qs : List Part) → AllByRecursion FitsPart qs → list_all (λ (q : Part). nat_le q.rp.priority 255) qs ≡ true
parts_low [] fits = refl
parts_low (q ∷ qs) fits =
    let byte : FitsByte q.rp.priority = fits.0.1.0.1.1 in
    and_both (nat_le q.rp.priority 255) _ (grind (arith, nat_tests, byte)) (parts_low qs fits.1)

table_low : (t : Table) → FitsTable t → HavePriorities t
table_low t fits = record { rps = rps_low t.rps fits.0.1; parts = parts_low t.parts fits.1.1 }

restored_known : (b : Bool) (k l : Known) → restored_if b k ≡ Ok l → k ≡ l
restored_known true k l e = cc
restored_known false k l e = absurd cc

restored_of_read : (r : Result Known SavedRefusal) (l : Known) → restored_of r ≡ Ok l → r ≡ Ok l
restored_of_read (Ok k) l e = rw (restored_known (is_sound k) k l e) refl
restored_of_read (Err refusal) l e = absurd cc

pub restored_have_priorities : RestoredHavePriorities
unfolding restored
restored_have_priorities bytes k are e =
    let read : known_reading bytes ≡ Ok k = restored_of_read (known_reading bytes) k e in
    table_low k.table (known_reading_is_text bytes k are read).1.1.0.1
