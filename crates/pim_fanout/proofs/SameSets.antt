-- Two sets are the same where nothing is in one of them alone.
use Rattle.std.{proofs.Common.{◌≡◌, ◌==◌, ◌&&◌, ◌||◌, ℕ, Bool, true, false, not, IsTrue, ◌↔◌, refl, sym, ap, ◌∙◌, eq-eqb, eqb-true}, specs.Int.bit_at}
use Rattle.pim_ifset.{specs.Members.{Members, has}, proofs.Sets.same_members}

none_alone : (a b : Bool) → ((a && not b) || (b && not a)) ≡ false → a ≡ b
none_alone true true e = refl
none_alone false false e = refl
none_alone true false e = e
none_alone false true e = sym e

alike : (a b : Bool) → a ≡ b → ((a && not b) || (b && not a)) ≡ false
alike true true e = refl
alike false false e = refl
alike true false e = e
alike false true e = sym e

module _ (s t d : Members)
    (apart : (i : ℕ) → has d i ≡ ((has s i && not (has t i)) || (has t i && not (has s i)))) where
  same_masks_where : ((i : ℕ) → has d i ≡ false) → s.mask ≡ t.mask
  unfolding has
  same_masks_where none =
      ap (λ (m : Members). m.mask) (same_members (record { mask = s.mask; tunnel = false })
      (record { mask = t.mask; tunnel = false })
      (λ i. none_alone (has s i) (has t i) (sym (apart i) ∙ none i)) refl)

  none_where : s.mask ≡ t.mask → (i : ℕ) → has d i ≡ false
  unfolding has
  none_where e i = apart i ∙ alike (has s i) (has t i) (λ j. bit_at (e j) i == 1)

  pub told_by_masks : (r : Bool) → d.tunnel ≡ false → (IsTrue r ↔ (((i : ℕ) → has d i ≡ false) × (d.tunnel ≡ false)))
      → r ≡ (s.mask == t.mask)
  told_by_masks true out told = sym (eq-eqb s.mask t.mask (same_masks_where (told.0 refl).0))
  told_by_masks false out told = go (s.mask == t.mask) refl
    where
      go : (b : Bool) → (s.mask == t.mask) ≡ b → false ≡ b
      go true e = told.1 (none_where (eqb-true s.mask t.mask e), out)
      go false e = refl
