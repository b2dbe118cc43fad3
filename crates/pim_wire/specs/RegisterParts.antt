-- The parts of what a Register holds.
use Rattle.std.{specs.Prelude.{ℕ, Bool, true, false, Option, Some, None}}
use Rattle.pim_ip.{specs.Ipv4.Packet}
use Rattle.pim_wire.{specs.Values.{Register, Encapsulated, Null}}

-- The Register is a Null-Register: pkt.NullRegisterBit (RFC 7761, section 4.4.2).
abbrev pub is_null : Register → Bool
is_null (Encapsulated packet) = false
is_null (Null source group) = true

-- The source that a Register names.
abbrev pub registered_source : Register → ℕ
registered_source (Encapsulated packet) = packet.source
registered_source (Null source group) = source

-- The group that a Register names.
abbrev pub registered_group : Register → ℕ
registered_group (Encapsulated packet) = packet.destination
registered_group (Null source group) = group

-- The data packet of a Register, if it holds one.
abbrev pub registered_packet : Register → Option Packet
registered_packet (Encapsulated packet) = Some packet
registered_packet (Null source group) = None
