-- What the addresses of an interface's subnet have in common, and the own addresses in ascending order.
use Rattle.std.{specs.{List.{slice_get, Sorted.{IsNonDecreasingBy, IsPermutation}}, Option.{option_and_then, option_map_or}, Prelude.{Bool, IfSome, List, None, Option, Some, [], false, if◌then◌else◌, suc, true, zero, ℕ, ◌+◌, ◌-◌, ◌/◌, ◌^◌, ◌≡◌, ◌∷◌}}}
use Rattle.pim_ip.{specs.Prefixes.contains}
use Rattle.pim_types.{specs.declared.config.InterfaceConfig.InterfaceConfig}
use Rattle.pim_model.{specs.{Limits.are_apart, Unicast.subnet}}
use Rattle.pim_ifaces.{specs.declared.configured.{Own.Own, Subnet.Subnet}}

-- how many bits lie past the prefix, and the bits of the prefix
abbrev pub subnet_of : InterfaceConfig → Subnet
subnet_of c = record { host_bits = 32 - c.length; network = c.address.bits / 2 ^ (32 - c.length) }

-- the address lies in the subnet of the interface with the number
abbrev pub lies_in : List InterfaceConfig → ℕ → ℕ → Bool
lies_in configured address i = option_map_or (λ c. contains (subnet c) address) (slice_get configured i) false

-- the interface that is found is one in whose subnet the address lies, and it lies in no other
pub record Finds (configured : List InterfaceConfig) (address : ℕ) (found : Option ℕ) : Type 0 where
  pub lies : IfSome found (λ n. lies_in configured address n ≡ true)
  pub only : (i : ℕ) → lies_in configured address i ≡ true → found ≡ Some i

-- the own addresses, by the interfaces' numbers from one on
unfoldable pub owns_from : ℕ → List InterfaceConfig → List Own
owns_from n [] = []
owns_from n (c ∷ cs) = record { address = c.address.bits; number = n } ∷ owns_from (n + 1) cs

-- the subnets are apart, and the own addresses are in order
pub record AreOrdered (configured : List InterfaceConfig) (owns : List Own) : Type 0 where
  pub apart : are_apart configured ≡ true
  pub all : IsPermutation (owns_from 0 configured) owns
  pub order : IsNonDecreasingBy (λ o. o.address) owns

-- the number at the place, if the address lies in the subnet of its interface
abbrev pub found_at : List InterfaceConfig → List Own → ℕ → ℕ → Option ℕ
found_at configured owns address place =
    option_and_then (λ o. if lies_in configured address o.number then Some o.number else None) (slice_get owns place)

-- the same of the place before
abbrev pub found_before : List InterfaceConfig → List Own → ℕ → ℕ → Option ℕ
found_before configured owns address zero = None
found_before configured owns address (suc place) = found_at configured owns address place
