-- The addresses from a place on, one by one.
use Rattle.std.{proofs.Common.{◌≡◌, ℕ, zero, suc, ◌+◌, ◌-◌, ◌<◌, List, [], ◌∷◌, length, refl, ap, arith}}
use Rattle.byteorder.{specs.Endian.big_from}
use Rattle.igmp_wire.{specs.Queries.addresses_at}

pub addresses_at-none : (b : List ℕ) (p n : ℕ) → n ≡ 0 → addresses_at b p n ≡ []
unfolding addresses_at
addresses_at-none b p zero e = refl
addresses_at-none b p (suc n) e = absurd (omega arith)

pub addresses_at-more : (b : List ℕ) (p n : ℕ) → 0 < n → addresses_at b p n ≡ big_from p 4 b ∷ addresses_at b (p + 4) (n - 1)
unfolding addresses_at
addresses_at-more b p zero h = absurd (omega arith)
addresses_at-more b p (suc n) h = let e : suc n - 1 ≡ n = omega arith in rw e refl

-- there are as many as are asked for
pub length-addresses_at : (b : List ℕ) (p n : ℕ) → length (addresses_at b p n) ≡ n
unfolding addresses_at
length-addresses_at b p zero = refl
length-addresses_at b p (suc n) = ap suc (length-addresses_at b (p + 4) n)

-- taking one from the addresses that are left
pub ruleset addresses_taken = (addresses_at-none, addresses_at-more, length-addresses_at)
