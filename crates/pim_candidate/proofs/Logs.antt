-- Whole logarithms.
use Rattle.std.{proofs.{Common.{◌≡◌, ℕ, zero, suc, ◌-◌, ◌^◌, ◌<◌, ◌≤◌, refl, arith}, lemmas.Bool.Decides.nat_tests}}
use Rattle.pim_candidate.{specs.Election.whole_log}

-- a number below a power has a lower logarithm
pub lower_log : (k n : ℕ) → 0 < k → n < 2 ^ k → whole_log (k - 1) n ≡ whole_log k n
unfolding whole_log
lower_log zero n h below = absurd (omega arith)
lower_log (suc k) n h below = let e : suc k - 1 ≡ k = omega arith in rw e (grind (arith, nat_tests))

-- a number that isn't
pub found_log : (k n : ℕ) → 2 ^ k ≤ n → whole_log k n ≡ k
unfolding whole_log
found_log zero n there = refl
found_log (suc k) n there = grind (arith, nat_tests)

pub no_log : (n : ℕ) → whole_log 0 n ≡ 0
unfolding whole_log
no_log n = refl
