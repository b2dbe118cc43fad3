-- What a set of interfaces is: which interfaces are in it, and whether the register tunnel is.
use Rattle.std.{specs.{Prelude.{ℕ, zero, suc, ◌+◌, ◌^◌, ◌==◌, Bool, if◌then◌else◌, List, filter, map}, Int.bit_at, List.range_with_len}}
use Rattle.pim_types.{specs.declared.config.IfaceId.IfaceId}

-- the interfaces as the bits of a number, interface 0 the lowest, and the register tunnel
pub record Members : Type 0 where
  pub mask : ℕ
  pub tunnel : Bool

-- interface q is in the set
unfoldable pub has : Members → ℕ → Bool
has s q = bit_at s.mask q == 1

-- the number whose bits below n are set where the test passes
unfoldable pub mask_of : (ℕ → Bool) → ℕ → ℕ
mask_of p zero = 0
mask_of p (suc n) = mask_of p n + (if p n then 2 ^ n else 0)

-- the set of the interfaces that pass the test, with the tunnel or without it
unfoldable pub set_of : (ℕ → Bool) → Bool → Members
set_of p tunnel = record { mask = mask_of p 120; tunnel = tunnel }

-- the interface of a number
abbrev pub iface_of : ℕ → IfaceId
iface_of q = record { number = q }

-- the numbers below n that pass the test, ascending
unfoldable pub passing_below : (ℕ → Bool) → ℕ → List ℕ
passing_below p n = filter p (range_with_len 0 n)

-- the interfaces in the set, ascending
unfoldable pub interfaces : Members → List IfaceId
interfaces s = map iface_of (passing_below (has s) 120)
