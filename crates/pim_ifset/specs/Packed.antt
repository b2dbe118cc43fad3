-- A set of interfaces and of the register tunnel as one number of 128 bits.
use Rattle.std.{specs.{Prelude.{◌≡◌, ℕ, ◌+◌, ◌%◌, ◌^◌, ◌<◌, ◌==◌, if◌then◌else◌}, Int.bit_at}}
use Rattle.pim_ifset.{specs.Members.Members}

-- the set of a number: its lower bits are the interfaces, its bit 127 the register tunnel
abbrev pub unpacked : ℕ → Members
unpacked n = record { mask = n % 2 ^ 127; tunnel = bit_at n 127 == 1 }

-- the number of a set
abbrev pub packed : Members → ℕ
packed s = s.mask + (if s.tunnel then 2 ^ 127 else 0)

-- the number of a set whose interfaces are below 120
abbrev pub IsPacked : ℕ → Type 0
IsPacked n = (packed (unpacked n) ≡ n) × (n % 2 ^ 127 < 2 ^ 120)
