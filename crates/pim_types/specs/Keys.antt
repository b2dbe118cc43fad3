-- The one key of all facts and timers: its order, and the keys of each kind.
use Rattle.std.{specs.{Option.{option_cmp, option_map_or}, Ordering.{bool_cmp, is_eq, nat_cmp, ordering_then}, Prelude.{Bool, None, Option, Some, false, is_none, is_some, option_map, true, ℕ, ◌&&◌, ◌==◌}, declared.cmp.Ordering.Ordering}}
use Rattle.pim_ip.{specs.{declared.addr.Addr.Addr, Addr.addr}}
use Rattle.pim_types.{specs.declared.fact.Key.Key}

-- The order of addresses: by their bits.
unfoldable pub addr_cmp : Addr → Addr → Ordering
addr_cmp a b = nat_cmp a.bits b.bits

-- The order of keys: by interface, group, (*,G) before its sources, source, (S,G) before (S,G,rpt).
unfoldable pub key_cmp : Key → Key → Ordering
key_cmp a b =
    ordering_then (nat_cmp a.iface.number b.iface.number)
    (ordering_then (addr_cmp a.group b.group)
    (ordering_then (option_cmp addr_cmp a.source b.source) (bool_cmp a.rpt b.rpt)))

-- Two keys are the same in all their fields.
abbrev pub same_key : Key → Key → Bool
same_key k q = is_eq (key_cmp k q)

-- The key of an interface, a group, a source if any, and whether it is of (S,G,rpt), by their numbers.
abbrev pub key_of : ℕ → ℕ → Option ℕ → Bool → Key
key_of i g source rpt =
    record { iface = record { number = i }; group = addr g; source = option_map addr source; rpt = rpt }

-- The key of (*,G) on an interface; keys of the whole router are on interface 0.
abbrev pub star_key : ℕ → ℕ → Key
star_key i g = key_of i g None false

-- The key of (S,G) on an interface.
abbrev pub source_key : ℕ → ℕ → ℕ → Key
source_key i g src = key_of i g (Some src) false

-- The key of (S,G,rpt) on an interface.
abbrev pub rpt_key : ℕ → ℕ → ℕ → Key
rpt_key i g src = key_of i g (Some src) true

-- The key of an interface.
abbrev pub iface_key : ℕ → Key
iface_key i = key_of i 0 None false

-- The key of the neighbour with the address on an interface.
abbrev pub neighbour_key : ℕ → ℕ → Key
neighbour_key i address = key_of i 0 (Some address) false

-- The interface of a key.
abbrev pub iface_in : Key → ℕ
iface_in k = k.iface.number

-- The group of a key.
abbrev pub group_in : Key → ℕ
group_in k = k.group.bits

-- The source of a key, or 0 where it has none.
abbrev pub source_in : Key → ℕ
source_in k = option_map_or (λ a. a.bits) k.source 0

-- A key has no source, as that of (*,G).
abbrev pub is_star : Key → Bool
is_star k = is_none k.source

-- A key is of the source of the group, on any interface.
unfoldable pub names_source : ℕ → ℕ → Key → Bool
names_source g src k = (group_in k == g) && is_some k.source && (source_in k == src)

-- A key is on the interface.
abbrev pub is_on : ℕ → Key → Bool
is_on i k = iface_in k == i

-- A key is of the group, or of a source of it.
abbrev pub is_of_group : ℕ → Key → Bool
is_of_group g k = group_in k == g
