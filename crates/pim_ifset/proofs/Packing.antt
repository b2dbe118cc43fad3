-- Sets as one number: that the number stays one of a set, which interfaces an operation on numbers leaves, and whether
-- the tunnel.
use Rattle.std.{proofs.{Common.{◌≡◌, ℕ, zero, suc, ◌+◌, ◌-◌, ◌*◌, ◌/◌, ◌%◌, ◌^◌, ◌<◌, ◌≤◌, Bool, true, false, not, ◌&&◌, ◌||◌, ◌==◌, bit_and, bit_or, refl, ap, sym, ◌∙◌, arith, nat_lt, if◌then◌else◌, count_ones, length, IsTrue, ◌↔◌, rules}, lemmas.{Nat.{ones_le_self, and_mod, or_mod, and_le_l, and_mask, or_lt, ones_cat, shr_split, Bits.{and_pow, bit_at-lt, bit_at_and, bit_at_or, bit_at_not, bit_at_above, bit_at_cat_low}}, Bool.Decides.nat_tests, Grind.common_steps}}, specs.Int.{bit_at, bit_not, w128}}
use lib.{Count.ones_step}
use Rattle.pim_ifset.{proofs.{Ascending.{interfaces_tunnel, length_interfaces}, Masks.{and_true, has_by_shift, has_empty, has_ones, has_single, max_test, min_test, not_test, ones_lt, power_lt, shifted, swapped}, Sets.no_bits}, specs.{Members.{has, interfaces}, Packed.{IsPacked, unpacked}}}

-- the number's bits below the tunnel's
abbrev pub low : ℕ → ℕ
low n = n % 2 ^ 127

-- a number by its bit 127 and those below it
halves : (n : ℕ) → n / 2 ^ 127 * 2 ^ 127 + low n ≡ n
halves n = shr_split n 127

low_lt : (n : ℕ) → low n < 2 ^ 127
low_lt n = omega arith

-- of 128 bits the highest is what a half of them leaves
top_bit : (n : ℕ) → n < 2 ^ 128 → bit_at n 127 ≡ n / 2 ^ 127
top_bit n within = omega arith

-- a number of 128 bits whose interfaces are below 120
pub is_packed : (n : ℕ) → n < 2 ^ 128 → low n < 2 ^ 120 → IsPacked n
is_packed n within small = grind arith

pub within_128 : (n : ℕ) → IsPacked n → n < 2 ^ 128
within_128 n held = grind arith

pub or_packed : (a b : ℕ) → IsPacked a → IsPacked b → IsPacked (bit_or a b)
or_packed a b held_a held_b = search (rules, is_packed, or_lt, within_128, or_mod)

pub and_packed : (a b : ℕ) → IsPacked a → IsPacked (bit_and a b)
and_packed a b held =
    is_packed (bit_and a b) (omega (arith, and_le_l a b, within_128 a held)) (rw (and_mod a b 127) (omega (arith, and_le_l (low a) (low b), held.1)))

pub zero_packed : IsPacked 0
zero_packed = is_packed 0 (omega arith) (omega arith)

-- a bit of the interfaces is that bit of the number
low_bit : (n q : ℕ) → q < 127 → bit_at (low n) q ≡ bit_at n q
low_bit n q below = sym (bit_at_cat_low (n / 2 ^ 127) 127 (low n) q below) ∙ ap (λ m. bit_at m q) (halves n)

-- an interface is in where its bit is set
has_unpacked : (n q : ℕ) → has (unpacked n) q ≡ (nat_lt q 127 && bit_at n q == 1)
unfolding has
has_unpacked n q = elim (nat_lt q 127) as (λ b. nat_lt q 127 ≡ b → (bit_at (low n) q == 1) ≡ (b && bit_at n q == 1)) [
  | true ↦ λ e. let below : q < 127 = grind (arith, nat_tests) in rw (low_bit n q below) refl
  | false ↦ λ e. let above : 127 ≤ q = grind (arith, nat_tests) in rw (bit_at_above (low n) 127 q (low_lt n) above) refl
] refl

both_or : (t a b : Bool) → (t && (a || b)) ≡ ((t && a) || (t && b))
both_or t a b = grind arith

both_and : (t a b : Bool) → (t && (a && b)) ≡ ((t && a) && (t && b))
both_and t a b = grind arith

both_minus : (t a b : Bool) → (t && (a && not b)) ≡ ((t && a) && not (t && b))
both_minus t a b = grind arith

or_bit : (a b q : ℕ) → (bit_at (bit_or a b) q == 1) ≡ (bit_at a q == 1 || bit_at b q == 1)
or_bit a b q = rw (bit_at_or a b q) (max_test (bit_at a q) (bit_at b q) (bit_at-lt a q) (bit_at-lt b q))

and_bit : (a b q : ℕ) → (bit_at (bit_and a b) q == 1) ≡ (bit_at a q == 1 && bit_at b q == 1)
and_bit a b q = rw (bit_at_and a b q) (min_test (bit_at a q) (bit_at b q) (bit_at-lt a q) (bit_at-lt b q))

not_bit : (b q : ℕ) → b < 2 ^ 128 → q < 128 → (bit_at (bit_not w128 b) q == 1) ≡ not (bit_at b q == 1)
not_bit b q within below = rw (bit_at_not w128 b q within below) (not_test (bit_at b q) (bit_at-lt b q))

minus_bit : (a b q : ℕ) → b < 2 ^ 128 → q < 128 → (bit_at (bit_and a (bit_not w128 b)) q == 1) ≡ (bit_at a q == 1 && not (bit_at b q == 1))
minus_bit a b q within below = and_bit a (bit_not w128 b) q ∙ ap (λ x. bit_at a q == 1 && x) (not_bit b q within below)

-- what is in either
pub has_either : (a b q : ℕ) → has (unpacked (bit_or a b)) q ≡ (has (unpacked a) q || has (unpacked b) q)
has_either a b q = grind (arith, has_unpacked, or_bit, both_or)

pub tunnel_either : (a b : ℕ) → (unpacked (bit_or a b)).tunnel ≡ ((unpacked a).tunnel || (unpacked b).tunnel)
tunnel_either a b = or_bit a b 127

-- what is in both
pub has_both : (a b q : ℕ) → has (unpacked (bit_and a b)) q ≡ (has (unpacked a) q && has (unpacked b) q)
has_both a b q = grind (arith, has_unpacked, and_bit, both_and)

pub tunnel_both : (a b : ℕ) → (unpacked (bit_and a b)).tunnel ≡ ((unpacked a).tunnel && (unpacked b).tunnel)
tunnel_both a b = and_bit a b 127

-- what is in the first and not in the second
pub has_minus : (a b q : ℕ) → b < 2 ^ 128 → has (unpacked (bit_and a (bit_not w128 b))) q ≡ (has (unpacked a) q && not (has (unpacked b) q))
has_minus a b q within = grind (arith, has_unpacked, nat_tests, minus_bit, both_minus)

pub tunnel_minus : (a b : ℕ) → b < 2 ^ 128 → (unpacked (bit_and a (bit_not w128 b))).tunnel ≡ ((unpacked a).tunnel && not (unpacked b).tunnel)
tunnel_minus a b within = minus_bit a b 127 within (omega arith)

-- the number of one interface
abbrev pub single : ℕ → ℕ
single k = 1 * 2 ^ k % 2 ^ 128

single_lt : (k : ℕ) → k < 120 → single k < 2 ^ 120
single_lt k below = rw (shifted k below) (power_lt k below)

single_within : (k : ℕ) → k < 120 → single k < 2 ^ 128
single_within k below = omega (arith, single_lt k below)

same_low : (n : ℕ) → n < 2 ^ 127 → low n ≡ n
same_low n small = omega arith

single_low : (k : ℕ) → k < 120 → low (single k) ≡ single k
single_low k below = same_low (single k) (omega (arith, single_lt k below))

single_packed : (k : ℕ) → k < 120 → IsPacked (single k)
single_packed k below = is_packed (single k) (single_within k below) (rw (single_low k below) (single_lt k below))

has_one : (k q : ℕ) → k < 120 → has (unpacked (single k)) q ≡ (q == k)
has_one k q below = ap (λ m. has (record { mask = m; tunnel = (unpacked (single k)).tunnel }) q) (single_low k below) ∙ has_single k _ q below

one_without_tunnel : (k : ℕ) → k < 120 → (unpacked (single k)).tunnel ≡ false
one_without_tunnel k below = rw (bit_at_above (single k) 120 127 (single_lt k below) (omega arith)) refl

or_false : (b : Bool) → (b || false) ≡ b
or_false b = grind arith

-- one interface more
pub with_packed : (n k : ℕ) → IsPacked n → k < 120 → IsPacked (bit_or n (single k))
with_packed n k held below = or_packed n (single k) held (single_packed k below)

pub has_with : (n k q : ℕ) → k < 120 → has (unpacked (bit_or n (single k))) q ≡ (q == k || has (unpacked n) q)
has_with n k q below = has_either n (single k) q ∙ ap (λ b. has (unpacked n) q || b) (has_one k q below) ∙ swapped (has (unpacked n) q) (q == k)

pub tunnel_with : (n k : ℕ) → k < 120 → (unpacked (bit_or n (single k))).tunnel ≡ (unpacked n).tunnel
tunnel_with n k below = tunnel_either n (single k) ∙ ap (λ b. (unpacked n).tunnel || b) (one_without_tunnel k below) ∙ or_false (unpacked n).tunnel

-- all but one interface
pub has_without : (n k q : ℕ) → k < 120 → has (unpacked (bit_and n (bit_not w128 (single k)))) q ≡ (has (unpacked n) q && not (q == k))
has_without n k q below = has_minus n (single k) q (single_within k below) ∙ ap (λ b. has (unpacked n) q && not b) (has_one k q below)

pub tunnel_without : (n k : ℕ) → k < 120 → (unpacked (bit_and n (bit_not w128 (single k)))).tunnel ≡ (unpacked n).tunnel
tunnel_without n k below = grind (arith, tunnel_minus, single_within, one_without_tunnel, and_true)

-- the interfaces below one
abbrev pub ones : ℕ → ℕ
ones k = 1 * 2 ^ k % 2 ^ 128 - 1

ones_low : (k : ℕ) → k ≤ 120 → low (ones k) ≡ ones k
ones_low k within = same_low (ones k) (omega (arith, ones_lt k within))

pub ones_packed : (k : ℕ) → k ≤ 120 → IsPacked (ones k)
ones_packed k within = is_packed (ones k) (omega (arith, ones_lt k within)) (rw (ones_low k within) (ones_lt k within))

pub has_below : (k q : ℕ) → k ≤ 120 → has (unpacked (ones k)) q ≡ nat_lt q k
has_below k q within = ap (λ m. has (record { mask = m; tunnel = (unpacked (ones k)).tunnel }) q) (ones_low k within) ∙ has_ones k _ q within

pub below_without_tunnel : (k : ℕ) → k ≤ 120 → (unpacked (ones k)).tunnel ≡ false
below_without_tunnel k within = rw (bit_at_above (ones k) 120 127 (ones_lt k within) (omega arith)) refl

-- an interface by its bit, shifted down
pub has_shifted : (n k : ℕ) → k < 120 → (bit_and (n / 2 ^ k) 1 == 1) ≡ has (unpacked n) k
unfolding has
has_shifted n k below = grind (arith, common_steps, has_by_shift, has_unpacked, nat_tests)

-- the tunnel by its bit
bit_power : (d : ℕ) → d < 2 → not (d * 2 ^ 127 == 0) ≡ (d == 1)
bit_power d small = grind arith

pub tunnel_masked : (n : ℕ) → not (bit_and n (2 ^ 127) == 0) ≡ (unpacked n).tunnel
tunnel_masked n = rw (and_pow n 127) (bit_power (bit_at n 127) (bit_at-lt n 127))

-- the interfaces alone
abbrev pub bare : ℕ → ℕ
bare n = bit_and n (2 ^ 127 - 1)

bare_low : (n : ℕ) → bare n ≡ low n
bare_low n = and_mask n 127

low_bare : (n : ℕ) → low (bare n) ≡ low n
low_bare n = ap low (bare_low n) ∙ same_low (low n) (low_lt n)

pub has_bare : (n q : ℕ) → has (unpacked (bare n)) q ≡ has (unpacked n) q
unfolding has
has_bare n q = ap (λ m. bit_at m q == 1) (low_bare n)

pub bare_without_tunnel : (n : ℕ) → (unpacked (bare n)).tunnel ≡ false
bare_without_tunnel n = rw (bare_low n, bit_at_above (low n) 127 127 (low_lt n) (omega arith)) refl

pub bare_lt : (n : ℕ) → IsPacked n → bare n < 2 ^ 120
bare_lt n held = rw (bare_low n) held.1

pub interfaces_bare : (n : ℕ) → interfaces (record { mask = bare n; tunnel = false }) ≡ interfaces (unpacked n)
interfaces_bare n = ap (λ m. interfaces (record { mask = m; tunnel = false })) (bare_low n) ∙ interfaces_tunnel (low n) false (unpacked n).tunnel

-- the tunnel too
tunnel_only : (unpacked (2 ^ 127)).tunnel ≡ true
tunnel_only = refl

or_true : (b : Bool) → (b || true) ≡ true
or_true b = grind arith

tunnel_packed : IsPacked (2 ^ 127)
tunnel_packed = is_packed (2 ^ 127) (omega arith) (omega arith)

pub tunnelled_packed : (n : ℕ) → IsPacked n → IsPacked (bit_or n (2 ^ 127))
tunnelled_packed n held = or_packed n (2 ^ 127) held tunnel_packed

pub has_tunnelled : (n q : ℕ) → has (unpacked (bit_or n (2 ^ 127))) q ≡ has (unpacked n) q
has_tunnelled n q = has_either n (2 ^ 127) q ∙ ap (λ b. has (unpacked n) q || b) (has_empty (unpacked (2 ^ 127)).tunnel q) ∙ or_false (has (unpacked n) q)

pub with_tunnel : (n : ℕ) → (unpacked (bit_or n (2 ^ 127))).tunnel ≡ true
with_tunnel n = tunnel_either n (2 ^ 127) ∙ ap (λ b. (unpacked n).tunnel || b) tunnel_only ∙ or_true (unpacked n).tunnel

-- nothing is in where no bit is set
pub is_nothing : (n : ℕ) → IsPacked n → IsTrue (n == 0) ↔ (((q : ℕ) → has (unpacked n) q ≡ false) × ((unpacked n).tunnel ≡ false))
is_nothing n held = grind (arith, nat_tests, has_empty, no_bits)

-- how many bits are set
one_digit : (d : ℕ) → d < 2 → count_ones d ≡ (if d == 1 then 1 else 0)
one_digit zero small = omega (arith, ones_le_self 0)
one_digit (suc zero) small = omega (arith, ones_step 1, ones_le_self 0)
one_digit (suc (suc d)) small = absurd (omega arith)

top_digit : (n : ℕ) → n < 2 ^ 128 → count_ones (n / 2 ^ 127) ≡ (if (unpacked n).tunnel then 1 else 0)
top_digit n within = ap count_ones (sym (top_bit n within)) ∙ one_digit (bit_at n 127) (bit_at-lt n 127)

pub how_many : (n : ℕ) → IsPacked n → count_ones n ≡ length (interfaces (unpacked n)) + (if (unpacked n).tunnel then 1 else 0)
how_many n held =
    ap count_ones (sym (halves n)) ∙ ones_cat 127 (n / 2 ^ 127) (low n) (low_lt n)
    ∙ omega (arith, length_interfaces (low n) (unpacked n).tunnel held.1, top_digit n (within_128 n held))
