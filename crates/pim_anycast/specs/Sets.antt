-- Sets of RPs that share an address (RFC 4610, section 3): which settings are accepted, and what a router sends to the
-- others of a set.
use Rattle.std.{specs.{List.{list_all, list_any}, Prelude.{Bool, List, Option, find, length, map, nat_le, not, option_and_then, ℕ, ◌&&◌, ◌==◌}}}
use Rattle.pim_ip.{specs.{Ipv4.{is_unicast, pim_packet_text}, declared.addr.Addr.Addr}}
use Rattle.pim_types.{specs.declared.{config.RpTable.RpTable, outcome.Emission.Emission}}
use Rattle.pim_model.{specs.{Limits.are_once, State.{Addressing, is_own_among}, Unicast.rp_among}}
use Rattle.pim_anycast.{specs.declared.set.RpSet.RpSet}

-- the address is that of another of the set
abbrev pub is_other : RpSet → ℕ → Bool
is_other set address = list_any (λ (other : Addr). other.bits == address) set.others

-- the address is one that routers share
abbrev pub is_shared : List RpSet → ℕ → Bool
is_shared sets address = list_any (λ (set : RpSet). set.shared.bits == address) sets

-- ---- settings

-- the most others of a set
abbrev pub most_others : ℕ
most_others = 16

-- another router of a set: a host's address, and none of the router's
abbrev pub is_member : Addressing → Addr → Bool
is_member configured a = is_unicast a.bits && not (is_own_among configured a.bits)

-- A set that is accepted among others: the shared address and the own one are the router's, the own one isn't shared; the
-- others aren't too many, are other routers, and none is listed twice.
unfoldable pub is_rp_set : Addressing → List RpSet → RpSet → Bool
is_rp_set configured sets set =
    is_own_among configured set.shared.bits
    && is_own_among configured set.own.bits
    && not (is_shared sets set.own.bits)
    && nat_le (length set.others) most_others
    && list_all (is_member configured) set.others
    && are_once set.others

-- the sets of a router are accepted: each is, and no address is shared in two of them
unfoldable pub are_rp_sets : Addressing → List RpSet → Bool
are_rp_sets configured sets =
    list_all (is_rp_set configured sets) sets && are_once (map (λ (set : RpSet). set.shared) sets)

-- ---- the set of a group

-- the set that shares an address
unfoldable pub set_sharing : List RpSet → ℕ → Option RpSet
set_sharing sets address = find (λ (set : RpSet). set.shared.bits == address) sets

-- the set that shares RP(G), by the RP ranges
unfoldable pub set_for : List RpSet → RpTable → ℕ → Option RpSet
set_for sets ranges g = option_and_then (set_sharing sets) (rp_among ranges g)

-- ---- what is sent

-- a PIM message to another of the set, from the router's own address
abbrev pub sent_to : RpSet → ℕ → List ℕ → Addr → Emission
sent_to set time_to_live message other =
    Emission.Unicast other (pim_packet_text time_to_live set.own.bits other.bits message)

-- a PIM message to each of the others, in the order in which they are configured
unfoldable pub to_others : RpSet → ℕ → List ℕ → List Emission
to_others set time_to_live message = map (sent_to set time_to_live message) set.others
