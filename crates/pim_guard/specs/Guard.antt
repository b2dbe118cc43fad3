-- Which packets a guard before a router stops. RFC 7761 forwards what a Register brings whatever it is, and a packet of
-- PIM to any group but ALL-PIM-ROUTERS as data; hosts and routers on the links would take it as IGMP or PIM.
use Rattle.std.{specs.Prelude.{ℕ, Bool, true, false, not, ◌&&◌, ◌||◌, ◌==◌, if◌then◌else◌, List, [], Result, Ok, Err}}
use Rattle.pim_ip.{specs.{Ipv4.{Packet, ipv4_reading, is_link_local, is_multicast, protocol_igmp, protocol_pim}, declared.refusal.Refusal.Refusal}}
use Rattle.pim_types.{specs.declared.event.{Event.Event, EventKind.EventKind}}
use Rattle.pim_wire.{specs.{Messages.pim_reading, Values.{Register, Encapsulated, Null}, declared.view.PimView.PimView}}

-- a packet of IGMP or PIM, or one for a link alone
abbrev pub is_control : Packet → Bool
is_control p = (p.protocol == protocol_igmp) || ((p.protocol == protocol_pim) || is_link_local p.destination)

-- a Register brings such a packet; a Null-Register brings none
abbrev pub brings_control : Register → Bool
brings_control (Encapsulated packet) = is_control packet
brings_control (Null source group) = false

-- a message of PIM is a Register that brings such a packet
abbrev pub is_message_stopped : Result PimView Refusal → Bool
is_message_stopped (Ok (PimView.Register r)) = brings_control r
is_message_stopped (Ok (PimView.RegisterStop r)) = false
is_message_stopped (Ok (PimView.Hello h)) = false
is_message_stopped (Ok (PimView.JoinPrune m)) = false
is_message_stopped (Ok (PimView.Assert a)) = false
is_message_stopped (Ok PimView.Other) = false
is_message_stopped (Err refusal) = false

-- a packet by unicast that was read
unfoldable pub is_packet_stopped : Packet → Bool
is_packet_stopped p = if p.protocol == protocol_pim then is_message_stopped (pim_reading p.payload) else false

abbrev pub is_reading_stopped : Result Packet Refusal → Bool
is_reading_stopped (Ok p) = is_packet_stopped p
is_reading_stopped (Err refusal) = false

-- a packet by unicast
unfoldable pub is_unicast_stopped : List ℕ → Bool
is_unicast_stopped b = is_reading_stopped (ipv4_reading b)

-- a packet of PIM to a group, which isn't for the link alone
abbrev pub is_forwarded_pim : Packet → Bool
is_forwarded_pim p = (p.protocol == protocol_pim) && (is_multicast p.destination && not (is_link_local p.destination))

abbrev pub is_link_reading_stopped : Result Packet Refusal → Bool
is_link_reading_stopped (Ok p) = is_forwarded_pim p
is_link_reading_stopped (Err refusal) = false

-- a packet on a link
unfoldable pub is_frame_stopped : List ℕ → Bool
is_frame_stopped b = is_link_reading_stopped (ipv4_reading b)

-- an event brings such a packet
abbrev pub is_kind_stopped : EventKind → Bool
is_kind_stopped (EventKind.Frame i bytes) = is_frame_stopped bytes
is_kind_stopped (EventKind.Unicast bytes) = is_unicast_stopped bytes
is_kind_stopped (EventKind.Advance moment) = false
is_kind_stopped (EventKind.Up i) = false
is_kind_stopped (EventKind.Down i) = false
is_kind_stopped (EventKind.Routes routes) = false
is_kind_stopped (EventKind.Rps rps) = false
is_kind_stopped (EventKind.RpCandidates candidates) = false

-- the guard, if it is on, stops an event
abbrev pub is_stopped : Bool → EventKind → Bool
is_stopped guard kind = guard && is_kind_stopped kind

-- The event that a guarded router takes: in the place of one that is stopped it takes an empty packet, which it refuses,
-- so that nothing changes and nothing is sent.
abbrev pub guarded_if : Bool → Event → Event
guarded_if true e = record { draw = e.draw; kind = EventKind.Unicast [] }
guarded_if false e = e

abbrev pub guarded : Bool → Event → Event
guarded guard e = guarded_if (is_stopped guard e.kind) e
