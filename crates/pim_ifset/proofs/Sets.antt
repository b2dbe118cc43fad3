-- Sets by their members: two with the same members are equal, and `set_of` has those that pass.
use Rattle.std.{proofs.{Common.{◌≡◌, ◌≢◌, ℕ, zero, suc, ◌+◌, ◌-◌, ◌*◌, ◌^◌, ◌<◌, Bool, true, false, ◌&&◌, ◌==◌, refl, ap, sym, ◌∙◌, arith, nat_lt, if◌then◌else◌, cond, add-zero}, Math.Nat.pow-suc, lemmas.{Nat.Bits.{bit_at-lt, bit_at_above, bit_at-zero, bit_at_cat_low, bit_at_cat_high, same_from_bits}, Bool.{cases_order, Decides.nat_tests}}}, specs.Int.bit_at}
use Rattle.pim_ifset.{proofs.Masks.{has_empty, itself}, specs.Members.{Members, has, mask_of, set_of}}

same_digit : (x y : ℕ) → x < 2 → y < 2 → (x == 1) ≡ (y == 1) → x ≡ y
same_digit x y p q e = grind (arith, nat_tests)

-- two sets with the same interfaces that agree on the tunnel are equal
pub same_members : (s t : Members) → ((q : ℕ) → has s q ≡ has t q) → s.tunnel ≡ t.tunnel → s ≡ t
unfolding has
same_members s t same tunnel =
    let masks : s.mask ≡ t.mask = same_from_bits s.mask t.mask (λ q. same_digit _ _ (bit_at-lt s.mask q) (bit_at-lt t.mask q) (same q)) in
    λ i. record { mask = masks i; tunnel = tunnel i }

not_same : (q n : ℕ) → q ≢ n → (q == n) ≡ false
not_same q n other = grind (arith, nat_tests)

-- one digit more above a number of n digits
digit_low : (n m q : ℕ) → q < n → bit_at (m + 2 ^ n) q ≡ bit_at m q
digit_low n m q below = let e : m + 2 ^ n ≡ 1 * 2 ^ n + m = omega arith in rw (e, bit_at_cat_low 1 n m q below)

digit_here : (n m : ℕ) → m < 2 ^ n → bit_at (m + 2 ^ n) n ≡ 1
digit_here n m small = grind arith

digit_high : (n m q : ℕ) → m < 2 ^ n → n < q → bit_at (m + 2 ^ n) q ≡ 0
digit_high n m q small above =
    let e : m + 2 ^ n ≡ 1 * 2 ^ n + m = omega arith in
    rw (e, bit_at_cat_high 1 n m q small (omega arith)) (bit_at_above 1 1 (q - n) (omega arith) (omega arith))

digit_test : (b : Bool) (n m q : ℕ) → m < 2 ^ n → (bit_at (m + (if b then 2 ^ n else 0)) q == 1) ≡ cond (q == n) b (bit_at m q == 1)
digit_test b n m q small =
    grind (arith, cases_order, digit_low, not_same, digit_here, itself, digit_high, bit_at_above, add-zero)

pub mask_of_lt : (p : ℕ → Bool) (n : ℕ) → mask_of p n < 2 ^ n
unfolding mask_of
mask_of_lt p zero = omega arith
mask_of_lt p (suc n) = elim (p n) as (λ b. mask_of p n + (if b then 2 ^ n else 0) < 2 ^ suc n) [
  | true ↦ omega (arith, mask_of_lt p n, pow-suc 2 n)
  | false ↦ omega (arith, mask_of_lt p n, pow-suc 2 n)
]

-- below n, the test says it at n and the mask below
next_test : (p : ℕ → Bool) (n q : ℕ) → cond (q == n) (p n) (nat_lt q n && p q) ≡ (nat_lt q (suc n) && p q)
next_test p n q = grind arith

has_mask_of : (p : ℕ → Bool) (n : ℕ) (t : Bool) (q : ℕ) → has (record { mask = mask_of p n; tunnel = t }) q ≡ (nat_lt q n && p q)
unfolding has mask_of
has_mask_of p zero t q = let l : nat_lt q 0 ≡ false = grind (arith, nat_tests) in rw (bit_at-zero q, l)
has_mask_of p (suc n) t q = grind (arith, has_mask_of p n t q, digit_test, mask_of_lt, next_test)

pub has_set_of : (p : ℕ → Bool) (t : Bool) (q : ℕ) → has (set_of p t) q ≡ (nat_lt q 120 && p q)
unfolding set_of
has_set_of p t q = has_mask_of p 120 t q

pub no_bits : (m : ℕ) (t : Bool) → ((q : ℕ) → has (record { mask = m; tunnel = t }) q ≡ false) → m ≡ 0
no_bits m t none = ap (λ s. s.mask) (same_members (record { mask = m; tunnel = t }) (record { mask = 0; tunnel = t }) (λ q. none q ∙ sym (has_empty t q)) refl)
