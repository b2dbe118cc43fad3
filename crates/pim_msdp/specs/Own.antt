-- The sources of which an RP tells its peers: those that would register to it, and no other (RFC 3618, sections 3 and 6).
use Rattle.std.{specs.{List.list_any, Option.option_map_or, Prelude.{Bool, Err, List, None, Ok, Option, Result, Some, false, if◌then◌else◌, nat_lt, not, ℕ, ◌&&◌, ◌==◌}}}
use Rattle.pim_ip.{specs.{Addr.addr, Ipv4.{Packet, ipv4_reading}, declared.refusal.Refusal.Refusal}}
use Rattle.pim_types.{specs.declared.{config.RpTable.RpTable, name.SourceGroup.SourceGroup}}
use Rattle.pim_wire.{specs.{RegisterParts.{registered_group, registered_source}, Values.Register}}
use Rattle.pim_model.{specs.{State.{Addressing, State, is_own_among}, Tables.same_option, Unicast.rp_among}}
use Rattle.pim_anycast.{specs.{Announced.is_local, Passed.register_in, Sets.is_other, declared.set.RpSet.RpSet}}

-- ---- on the router's own links

-- RP(G) is an address of the router's
abbrev pub is_rp_here : Addressing → RpTable → ℕ → Bool
is_rp_here configured ranges g = option_map_or (is_own_among configured) (rp_among ranges g) false

-- A source that sends on a link of which the RP is the DR (3: an RP that isn't the DR there tells of it only for Registers).
unfoldable pub is_own_source : State → ℕ → ℕ → Bool
is_own_source s g src = is_local s g src && is_rp_here s.configured s.ranges g

-- ---- by a DR's Register

-- an address is that of another of a set that shares the RP's address (RFC 4610)
abbrev pub is_of_set : List RpSet → (rp address : ℕ) → Bool
is_of_set sets rp address = list_any (λ (set : RpSet). (set.shared.bits == rp) && is_other set address) sets

-- A packet with a Register of the group comes from a DR: it is for RP(G), which is an address of the router's, and comes from
-- none of a set that shares that.
-- here: with a TTL above 1, as one that such a set sends on; what the router is given for an SA has 1
unfoldable pub is_of_dr : List RpSet → Addressing → RpTable → Packet → ℕ → Bool
is_of_dr sets configured ranges p g =
    nat_lt 1 p.time_to_live
    && is_own_among configured p.destination
    && same_option (rp_among ranges g) (Some p.destination)
    && not (is_of_set sets p.destination p.source)

-- a source by its addresses
abbrev pub named : ℕ → ℕ → SourceGroup
named g src = record { source = addr src; group = addr g }

-- the source of a packet's Register, if a DR sent it
abbrev pub registered_by : List RpSet → Addressing → RpTable → Packet → Option Register → Option SourceGroup
registered_by sets configured ranges p None = None
registered_by sets configured ranges p (Some r) =
    if is_of_dr sets configured ranges p (registered_group r)
    then Some (named (registered_group r) (registered_source r)) else None

abbrev pub reading_registered : List RpSet → Addressing → RpTable → Result Packet Refusal → Option SourceGroup
reading_registered sets configured ranges (Ok p) = registered_by sets configured ranges p (register_in p)
reading_registered sets configured ranges (Err refusal) = None

-- The source that bytes register here that come by unicast, if they do.
unfoldable pub registered : List RpSet → Addressing → RpTable → List ℕ → Option SourceGroup
registered sets configured ranges bytes = reading_registered sets configured ranges (ipv4_reading bytes)
