-- A set of the interfaces below one that pass a test, with the next one or without it.
use Rattle.std.{proofs.{Common.{◌≡◌, ℕ, ◌+◌, Bool, true, false, ◌&&◌, ◌||◌, ◌==◌, nat_lt, arith, inl, inr}, lemmas.Bool.{cases_order, Decides.nat_tests}}}

pub with_next : (p : ℕ → Bool) (n q : ℕ) (old new : Bool) → true ≡ p n → old ≡ (nat_lt q n && p q)
    → new ≡ (q == n || old) → new ≡ (nat_lt q (n + 1) && p q)
with_next p n q old new passes was is = elim (cases_order q n) [
  | inl same ↦ let e : true ≡ p q = rw same passes in grind (arith, nat_tests)
  | inr (inl below) ↦ grind (arith, nat_tests)
  | inr (inr above) ↦ grind (arith, nat_tests)
]

pub without_next : (p : ℕ → Bool) (n q : ℕ) (old : Bool) → false ≡ p n → old ≡ (nat_lt q n && p q)
    → old ≡ (nat_lt q (n + 1) && p q)
without_next p n q old fails was = elim (cases_order q n) [
  | inl same ↦ let e : false ≡ p q = rw same fails in grind (arith, nat_tests)
  | inr (inl below) ↦ grind (arith, nat_tests)
  | inr (inr above) ↦ grind (arith, nat_tests)
]
