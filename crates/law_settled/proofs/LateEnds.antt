-- Ends that are late.
use Rattle.std.{proofs.Common.{◌≡◌, ℕ, ◌≤◌, ◌+◌, min, max, Bool, true, arith}}
use Rattle.law_settled.{proofs.{SettlingLaws.lower_of_two, FineStates.Lateness}}

module _ (m : ℕ) (late : ℕ → Bool) (lateness : Lateness m late) where
  -- a timestamp after the present time is late
  pub late_by : (p d : ℕ) → p ≡ m → 1 ≤ d → late (p + d) ≡ true
  late_by p d e h = lateness.later (p + d) (omega arith)

  pub late_min : (a b : ℕ) → late a ≡ true → late b ≡ true → late (min a b) ≡ true
  late_min a b e f = grind (arith, lower_of_two)

  pub late_max : (a b : ℕ) → late a ≡ true → late (max a b) ≡ true
  late_max a b e = lateness.up a (max a b) (omega arith) e
