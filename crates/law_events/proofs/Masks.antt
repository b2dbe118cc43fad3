-- Two tests that numbers show by their bits are the same of all interfaces that can be configured where the numbers are
-- equal.
use Rattle.std.{proofs.{Common.{◌≡◌, ◌==◌, ℕ, zero, suc, ◌+◌, ◌<◌, ◌≤◌, Bool, true, refl, arith, eq-eqb, eqb-true}, lemmas.{Bool.Decides.nat_tests, Nat.Bits.{bit_at-lt, same_from_bits}}}, specs.{Cmp.Derive.both_true, Int.bit_at, List.{list_all, range_with_len}}}
use Rattle.pim_model.{specs.Sets.Set}
use Rattle.law_events.{specs.Named.{IsMask, same_set}, proofs.{KeptSources.{Low, set_at}, SameRows.flags_same}}

all_from : (p : ℕ → Bool) (a n : ℕ) → ((i : ℕ) → a ≤ i → i < a + n → p i ≡ true) → list_all p (range_with_len a n) ≡ true
all_from p a zero each = refl
all_from p a (suc n) each =
    both_true (each a (omega arith) (omega arith))
    (all_from p (a + 1) n (λ i low high. each i (omega arith) (omega arith)))

set_of_all : (f h : Set) → ((i : ℕ) → Low i → f i ≡ h i) → same_set f h ≡ true
unfolding same_set
set_of_all f h same = grind (arith, all_from, flags_same, nat_tests)

same_digit : (x y : ℕ) → x < 2 → y < 2 → (x == 1) ≡ (y == 1) → x ≡ y
same_digit x y p q e = grind (arith, nat_tests)

module _ (m n : ℕ) (f h : Set) (first : IsMask m f) (second : IsMask n h) where
  bits_alike : same_set f h ≡ true → (q : ℕ) → (bit_at m q == 1) ≡ (bit_at n q == 1)
  bits_alike e q = grind (arith, set_at)

  masks_alike : same_set f h ≡ true → m ≡ n
  masks_alike e = same_from_bits m n (λ q. same_digit _ _ (bit_at-lt m q) (bit_at-lt n q) (bits_alike e q))

  tests_alike : m ≡ n → (i : ℕ) → Low i → f i ≡ h i
  tests_alike e i low = grind arith

  pub same_masks : (m == n) ≡ same_set f h
  same_masks = grind (arith, set_of_all, tests_alike, eqb-true, eq-eqb, masks_alike)
