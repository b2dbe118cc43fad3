-- Prefixes of IPv4 addresses, and the longest match.
use Rattle.std.{specs.Prelude.{ℕ, ◌-◌, ◌/◌, ◌%◌, ◌^◌, Bool, if◌then◌else◌, ◌==◌, nat_lt, List, [], ◌∷◌, Option, Some, None}}
use Rattle.pim_ip.{specs.declared.addr.Prefix.Prefix}

-- the address lies in the prefix: the highest `length` bits are the same
unfoldable pub contains : Prefix → ℕ → Bool
contains p address = address / 2 ^ (32 - p.length) == (p.address.bits / 2 ^ (32 - p.length))

-- no bit past the prefix is set
unfoldable pub is_host_clear : Prefix → Bool
is_host_clear p = p.address.bits % 2 ^ (32 - p.length) == 0

module _ {X : Type 0} (prefix_of : X → Prefix) where
  -- of a value with a prefix and another, if there is one, that of the longer prefix
  unfoldable pub longer : X → Option X → X
  longer x None = x
  longer x (Some y) = if nat_lt (prefix_of y).length (prefix_of x).length then x else y

  -- of the members that contain the address the one with the longest prefix
  unfoldable pub longest_match : List X → ℕ → Option X
  longest_match [] address = None
  longest_match (x ∷ xs) address =
      let best : Option X = longest_match xs address in
      if contains (prefix_of x) address then Some (longer x best) else best
