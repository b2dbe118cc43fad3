-- Which interfaces are in the sets that the operations make, by the bits of their masks, and that the masks stay below
-- 2 ^ 120.
use Rattle.std.{proofs.{Common.{◌≡◌, ℕ, ◌-◌, ◌*◌, ◌/◌, ◌%◌, ◌^◌, ◌<◌, ◌≤◌, min, max, Bool, true, false, not, ◌&&◌, ◌||◌, ◌==◌, bit_and, refl, ap, ◌∙◌, arith, inl, inr, nat_lt}, Math.{Nat.pow-le-pow_right, Pow.pow-lt}, lemmas.{Bool.{cases_order, Decides.nat_tests}, Nat.Bits.{bit_at-lt, bit_at_and, bit_at_not, bit_at-pow_same, bit_at-pow_other, bit_at_above, bit_at-zero, bit_at_ones, bit_at_ones_above, shr_and_one}, Grind.one_shifted}}, specs.Int.{bit_at, bit_not, w128}}
use Rattle.pim_ifset.{specs.Members.has}

pub max_test : (x y : ℕ) → x < 2 → y < 2 → (max x y == 1) ≡ (x == 1 || y == 1)
max_test x y p q = grind (arith, nat_tests)

pub min_test : (x y : ℕ) → x < 2 → y < 2 → (min x y == 1) ≡ (x == 1 && y == 1)
min_test x y p q = grind (arith, nat_tests)

pub not_test : (x : ℕ) → x < 2 → ((1 - x) == 1) ≡ not (x == 1)
not_test x p = grind (arith, nat_tests)

-- a number is equal to itself
pub itself : (n : ℕ) → (n == n) ≡ true
itself n = grind (arith, nat_tests)

pub and_true : (b : Bool) → b ≡ (b && true)
and_true b = grind arith

pub swapped : (a b : Bool) → (a || b) ≡ (b || a)
swapped a b = grind arith

-- the empty set has no interface
pub has_empty : (t : Bool) (q : ℕ) → has (record { mask = 0; tunnel = t }) q ≡ false
unfolding has
has_empty t q = rw (bit_at-zero q)

-- the tunnel says nothing of the interfaces
pub has_tunnel : (m : ℕ) (t u : Bool) (q : ℕ) → has (record { mask = m; tunnel = t }) q ≡ has (record { mask = m; tunnel = u }) q
unfolding has
has_tunnel m t u q = refl

pub has_and : (a b : ℕ) (t u v : Bool) (q : ℕ) → has (record { mask = bit_and a b; tunnel = t }) q ≡ (has (record { mask = a; tunnel = u }) q && has (record { mask = b; tunnel = v }) q)
unfolding has
has_and a b t u v q = rw (bit_at_and a b q) (min_test (bit_at a q) (bit_at b q) (bit_at-lt a q) (bit_at-lt b q))

-- no interface from 120 on
pub has_above : (m : ℕ) (t : Bool) (q : ℕ) → m < 2 ^ 120 → 120 ≤ q → has (record { mask = m; tunnel = t }) q ≡ false
unfolding has
has_above m t q small above = rw (bit_at_above m 120 q small above)

inverted : (b : ℕ) (t v : Bool) (q : ℕ) → b < 2 ^ 120 → q < 128 → has (record { mask = bit_not w128 b; tunnel = t }) q ≡ not (has (record { mask = b; tunnel = v }) q)
unfolding has
inverted b t v q small below = rw (bit_at_not w128 b q (omega arith) below) (not_test (bit_at b q) (bit_at-lt b q))

pub has_and_not : (a b : ℕ) (t u v : Bool) (q : ℕ) → a < 2 ^ 120 → b < 2 ^ 120 → has (record { mask = bit_and a (bit_not w128 b); tunnel = t }) q ≡ (has (record { mask = a; tunnel = u }) q && not (has (record { mask = b; tunnel = v }) q))
has_and_not a b t u v q small small_b =
    has_and a (bit_not w128 b) t u v q ∙ elim (cases_order q 128) [
      | inl here ↦ rw (has_above a u q small (omega arith))
      | inr (inl below) ↦ ap (λ x. has (record { mask = a; tunnel = u }) q && x) (inverted b v v q small_b below)
      | inr (inr above) ↦ rw (has_above a u q small (omega arith))
    ]

-- one interface
has_power : (k : ℕ) (t : Bool) (q : ℕ) → has (record { mask = 2 ^ k; tunnel = t }) q ≡ (q == k)
unfolding has
has_power k t q = grind (arith, nat_tests, bit_at-pow_same, bit_at-pow_other)

pub power_lt : (k : ℕ) → k < 120 → 2 ^ k < 2 ^ 120
power_lt k within = pow-lt {i = k} {j = 120} within

pub shifted : (k : ℕ) → k < 120 → 1 * 2 ^ k % 2 ^ 128 ≡ 2 ^ k
shifted k within = (one_shifted k _ refl (omega arith)).0

pub has_single : (k : ℕ) (t : Bool) (q : ℕ) → k < 120 → has (record { mask = 1 * 2 ^ k % 2 ^ 128; tunnel = t }) q ≡ (q == k)
has_single k t q within = rw (shifted k within) (has_power k t q)

-- all but one interface
pub has_without : (m k : ℕ) (t u : Bool) (q : ℕ) → m < 2 ^ 120 → k < 120 → has (record { mask = bit_and m (bit_not w128 (1 * 2 ^ k % 2 ^ 128)); tunnel = t }) q ≡ (has (record { mask = m; tunnel = u }) q && not (q == k))
has_without m k t u q small within =
    has_and_not m (1 * 2 ^ k % 2 ^ 128) t u t q small (rw (shifted k within) (power_lt k within)) ∙ ap (λ b. has (record { mask = m; tunnel = u }) q && not b) (has_single k t q within)

-- an interface that no set has is in none, and without it a set is as it was
pub has_but_above : (m k : ℕ) (t : Bool) (q : ℕ) → m < 2 ^ 120 → 120 ≤ k → has (record { mask = m; tunnel = t }) q ≡ (has (record { mask = m; tunnel = t }) q && not (q == k))
has_but_above m k t q small above = grind (arith, nat_tests, has_above, and_true)

pub has_by_shift : (m : ℕ) (t : Bool) (k : ℕ) → (bit_and (m / 2 ^ k) 1 == 1) ≡ has (record { mask = m; tunnel = t }) k
unfolding has
has_by_shift m t k = rw (shr_and_one m k)

-- all interfaces below one
ones_shifted : (k : ℕ) → k ≤ 120 → 1 * 2 ^ k % 2 ^ 128 - 1 ≡ 2 ^ k - 1
ones_shifted k within = ap (λ n. n - 1) ((one_shifted k _ refl (omega arith)).0)

pub ones_lt : (k : ℕ) → k ≤ 120 → 1 * 2 ^ k % 2 ^ 128 - 1 < 2 ^ 120
ones_lt k within = grind (arith, pow-le-pow_right, ones_shifted)

pub has_ones : (k : ℕ) (t : Bool) (q : ℕ) → k ≤ 120
    → has (record { mask = 1 * 2 ^ k % 2 ^ 128 - 1; tunnel = t }) q ≡ nat_lt q k
unfolding has
has_ones k t q within = grind (arith, ones_shifted, nat_tests, bit_at_ones, bit_at_ones_above)

pub has_below_limit : (m : ℕ) (t u : Bool) (q : ℕ) → m < 2 ^ 120
    → has (record { mask = m; tunnel = t }) q ≡ (nat_lt q 120 && has (record { mask = m; tunnel = u }) q)
has_below_limit m t u q small = grind (arith, has_tunnel, nat_tests, has_above)
