-- Sets of interfaces as the bits of two words.
use Rattle.std.{proofs.{Common.{◌≡◌, ℕ, zero, suc, ◌+◌, ◌^◌, ◌<◌, ◌≤◌, Bool, true, refl, sym, arith, nat_lt, if◌then◌else◌}, Math.Nat.pow-le-pow_right, lemmas.Bool.Decides.nat_tests}}
use Rattle.pim_ifset.{proofs.Sets.mask_of_lt, specs.Members.{Members, has, mask_of}}
use Rattle.pim_model.{specs.Sets.Set}
use Rattle.pim_state.{specs.Shown.Shows}

-- one bit more
pub next_bit : (p : ℕ → Bool) (n : ℕ) → mask_of p (n + 1) ≡ mask_of p n + (if p n then 2 ^ n else 0)
unfolding mask_of
next_bit p n = let e : n + 1 ≡ suc n = omega arith in rw e

pub no_bit : (p : ℕ → Bool) → mask_of p 0 ≡ 0
unfolding mask_of
no_bit p = refl

-- n bits and one more fit into a word
pub bits_fit : (p : ℕ → Bool) (n : ℕ) → n < 64 → mask_of p n + (if p n then 2 ^ n else 0) < 2 ^ 64
bits_fit p n below =
    let two : zero < 2 = omega arith in
    let top : n + 1 ≤ 64 = omega (arith, below) in
    let le : 2 ^ (n + 1) ≤ 2 ^ 64 = pow-le-pow_right two top in
    rw (sym (next_bit p n)) (omega (arith, mask_of_lt p (n + 1), le))

-- tests that agree below a number have the same bits there
pub same_bits : (p q : ℕ → Bool) (n : ℕ) → ((i : ℕ) → i < n → p i ≡ q i) → mask_of p n ≡ mask_of q n
unfolding mask_of
same_bits p q zero same = refl
same_bits p q (suc n) same = rw (same n (omega arith), same_bits p q n (λ i below. same i (omega arith)))

-- the words of a set that agrees with a test below 120 are those of the test
pub low_agreed : (s : Members) (p : Set) → ((i : ℕ) → nat_lt i 120 ≡ true → has s i ≡ p i)
    → mask_of (λ q. has s (0 + q)) 64 ≡ mask_of p 64
low_agreed s p agrees = same_bits _ _ 64 (λ i below.
    let z : 0 + i ≡ i = omega arith in let l : nat_lt i 120 ≡ true = grind (arith, nat_tests) in rw (z, agrees i l))

pub high_agreed : (s : Members) (p : Set) → ((i : ℕ) → nat_lt i 120 ≡ true → has s i ≡ p i)
    → mask_of (λ q. has s (64 + q)) 56 ≡ mask_of (λ q. p (64 + q)) 56
high_agreed s p agrees = same_bits _ _ 56 (λ i below.
    let l : nat_lt (64 + i) 120 ≡ true = grind (arith, nat_tests) in rw (agrees (64 + i) l))

-- one that shows it does
pub shown_agrees : (s : Members) (p : Set) → Shows s p → (i : ℕ) → nat_lt i 120 ≡ true → has s i ≡ p i
shown_agrees s p shows i below = rw (shows i, below)
