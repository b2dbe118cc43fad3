-- What a router is given for a Source-Active message (SA) of a peer. Sections are those of RFC 3618.
use Rattle.std.{specs.{Option.option_map_or, Prelude.{Bool, Err, List, None, Ok, Option, Result, Some, false, if◌then◌else◌, length, nat_le, ℕ, ◌&&◌, ◌==◌}}}
use Rattle.pim_ip.{specs.{Ipv4.{Packet, frame_limit, ipv4_reading, pim_packet_text}, declared.refusal.Refusal.Refusal}}
use Rattle.pim_types.{specs.declared.path.Path.Path}
use Rattle.pim_wire.{specs.Registers.{null_register_text, register_text}}
use Rattle.pim_model.{specs.{State.State, Unicast.route}}

-- ---- as a message of PIM

-- the packet that is encapsulated has the addresses of the source and the group (12.2.1)
abbrev pub is_from_to : ℕ → ℕ → Result Packet Refusal → Bool
is_from_to g src (Ok p) = (p.source == src) && (p.destination == g)
is_from_to g src (Err refusal) = false

-- bytes that are such a packet, and that a link can carry
unfoldable pub is_packet_of : ℕ → ℕ → List ℕ → Bool
is_packet_of g src bytes = nat_le (length bytes) frame_limit && is_from_to g src (ipv4_reading bytes)

-- An SA with a packet counts as a Register (8), and one without as a Null-Register: each makes the source known to the RP.
-- here: a packet that isn't of the source to the group, or is too long, is left out
unfoldable pub active_message : ℕ → ℕ → List ℕ → List ℕ
active_message g src bytes = if is_packet_of g src bytes then register_text bytes else null_register_text src g

-- the TTL of the packet in which the router is given an SA
-- here: 1, so that a set of RPs that share an address (RFC 4610) doesn't send it on
abbrev pub active_time_to_live : ℕ
active_time_to_live = 1

-- The packet in which the router is given an SA: as a DR's, from the peer to the router's own RP address.
unfoldable pub active_text : (peer rp g src : ℕ) → List ℕ → List ℕ
active_text peer rp g src bytes = pim_packet_text active_time_to_live peer rp (active_message g src bytes)

-- ---- which are given

-- the source is on a link of the router's
unfoldable pub is_connected : State → ℕ → Bool
is_connected s src = option_map_or (λ (p : Path). p.is_connected) (route s src) false

-- What the router is given, if anything.
-- here: nothing of a source on one of its own links, where it hears the source itself
unfoldable pub given_active : State → (peer rp g src : ℕ) → List ℕ → Option (List ℕ)
given_active s peer rp g src bytes = if is_connected s src then None else Some (active_text peer rp g src bytes)
