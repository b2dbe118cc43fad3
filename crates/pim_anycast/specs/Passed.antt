-- What a router of a set makes of a packet that comes by unicast. Sections are those of RFC 4610.
use Rattle.std.{specs.{Option.option_map_or, Prelude.{Bool, Err, List, None, Ok, Option, Result, Some, [], if◌then◌else◌, nat_lt, not, option_map, ℕ, ◌&&◌, ◌-◌, ◌==◌}}}
use Rattle.pim_ip.{specs.{Ipv4.{Packet, ipv4_reading, pim_packet_text, protocol_pim}, declared.refusal.Refusal.Refusal}}
use Rattle.pim_types.{specs.declared.{config.RpTable.RpTable, outcome.Emission.Emission}}
use Rattle.pim_wire.{specs.{Messages.pim_reading, RegisterParts.registered_group, Values.Register, declared.view.PimView.PimView}}
use Rattle.pim_anycast.{specs.{Sets.{is_other, set_for, to_others}, declared.{front.Passed.Passed, set.RpSet.RpSet}}}

-- the Register that a message is, if it is one
abbrev pub register_of : Result PimView Refusal → Option Register
register_of (Ok (PimView.Register r)) = Some r
register_of (Ok (PimView.RegisterStop r)) = None
register_of (Ok (PimView.Hello h)) = None
register_of (Ok (PimView.JoinPrune m)) = None
register_of (Ok (PimView.Assert a)) = None
register_of (Ok PimView.Other) = None
register_of (Err refusal) = None

-- the Register that a packet brings, if it brings one
unfoldable pub register_in : Packet → Option Register
register_in p = if p.protocol == protocol_pim then register_of (pim_reading p.payload) else None

-- A Register to the shared address from outside the set is sent on to each of the others, from the router's own address
-- (3). The RFC has the TTL copied, so that Registers between sets that don't fit each other end (4).
-- here: it is one lower in each copy, as behind any router, so that they end between routers that are next to each other
-- too; a Register with a TTL of 1 has no copies.
abbrev pub is_copied : RpSet → Packet → Bool
is_copied set p = (p.destination == set.shared.bits) && (not (is_other set p.source) && nat_lt 1 p.time_to_live)

-- a Register from another of the set, to the router's own address, isn't sent on (3)
abbrev pub is_copy : RpSet → Packet → Bool
is_copy set p = (p.destination == set.own.bits) && is_other set p.source

-- The router takes such a copy as a Register to the shared address, from the one who sent it.
-- here: by this packet in its place, since the router asks whether a Register's destination is RP(G) (RFC 7761, 4.4.2)
unfoldable pub counted_text : RpSet → Packet → List ℕ
counted_text set p = pim_packet_text p.time_to_live p.source set.shared.bits p.payload

-- what a set makes of a packet that brings a Register of one of its groups
unfoldable pub passed_by : RpSet → Packet → Passed
passed_by set p =
    if is_copied set p then Passed.Copied (to_others set (p.time_to_live - 1) p.payload)
    else (if is_copy set p then Passed.Counted (counted_text set p) else Passed.AsItCame)

-- a packet with a Register of a group counts for the set that shares RP(G)
abbrev pub group_passed : List RpSet → RpTable → Packet → Option ℕ → Passed
group_passed sets ranges p None = Passed.AsItCame
group_passed sets ranges p (Some g) = option_map_or (λ set. passed_by set p) (set_for sets ranges g) Passed.AsItCame

-- any other packet is given as it came, as a Register-Stop from another of the set
unfoldable pub packet_passed : List RpSet → RpTable → Packet → Passed
packet_passed sets ranges p = group_passed sets ranges p (option_map registered_group (register_in p))

abbrev pub reading_passed : List RpSet → RpTable → Result Packet Refusal → Passed
reading_passed sets ranges (Ok p) = packet_passed sets ranges p
reading_passed sets ranges (Err refusal) = Passed.AsItCame

-- What becomes of bytes that come by unicast, by the RP ranges of the router.
unfoldable pub passed : List RpSet → RpTable → List ℕ → Passed
passed sets ranges bytes = reading_passed sets ranges (ipv4_reading bytes)

-- what the router is given for the bytes
abbrev pub bytes_given : Passed → List ℕ → List ℕ
bytes_given Passed.AsItCame bytes = bytes
bytes_given (Passed.Copied copies) bytes = bytes
bytes_given (Passed.Counted text) bytes = text

-- what leaves to the others of a set
abbrev pub copies_of : Passed → List Emission
copies_of Passed.AsItCame = []
copies_of (Passed.Copied copies) = copies
copies_of (Passed.Counted text) = []
