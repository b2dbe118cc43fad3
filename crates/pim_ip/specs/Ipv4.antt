-- IPv4 packets (RFC 791): the reading as tests in their order over places, and the written texts.
use Rattle.std.{specs.Prelude.{ℕ, ◌+◌, ◌*◌, ◌-◌, ◌/◌, ◌%◌, Bool, ◌&&◌, ◌||◌, ◌==◌, nat_le, nat_lt, List, [], ◌∷◌, ◌++◌, length, take, drop, slice_index, slice_range, Result, Ok}}
use Rattle.byteorder.{specs.Endian.{big_from, big_bytes}}
use Rattle.pim_ip.{specs.{declared.refusal.Refusal.{Refusal, TheVariants.{Short, BadVersion, BadChecksum, BadLength, BadAddress, Fragment}}, Tests.{expect, ◌>>◌}, Checksum.{sum16, with_checksum}}}

-- what a packet says: the header fields that the router uses, the header's bytes with its options,
-- and the payload, without the bytes past the total length
pub record Packet : Type 0 where
  pub protocol : ℕ
  pub time_to_live : ℕ
  pub source : ℕ
  pub destination : ℕ
  pub header : List ℕ
  pub payload : List ℕ

-- the longest packet that is read: a Register of 1500 bytes behind two headers of its own
abbrev pub packet_limit : ℕ
packet_limit = 1528

-- the longest packet that a link carries
abbrev pub frame_limit : ℕ
frame_limit = 1500

-- the first address that is no unicast address
abbrev pub first_multicast : ℕ
first_multicast = 0xE000_0000

-- in 224.0.0.0/4
abbrev pub is_multicast : ℕ → Bool
is_multicast address = address / 0x1000_0000 == 14

-- an address that a host can have: not 0.0.0.0, and below 224.0.0.0
abbrev pub is_unicast : ℕ → Bool
is_unicast address = nat_lt 0 address && nat_lt address first_multicast

-- in 224.0.0.0/24, whose packets never leave their link
abbrev pub is_link_local : ℕ → Bool
is_link_local address = address / 0x100 == 0xE0_0000

-- in 232.0.0.0/8: source-specific multicast (RFC 7761, section 4.8)
abbrev pub is_source_specific : ℕ → Bool
is_source_specific group = group / 0x100_0000 == 232

-- ALL-PIM-ROUTERS, 224.0.0.13 (RFC 7761, section 4.3.1)
abbrev pub all_pim_routers : ℕ
all_pim_routers = 0xE000_000D

-- all systems, 224.0.0.1 (RFC 3376, section 4.1.12)
abbrev pub all_systems : ℕ
all_systems = 0xE000_0001

-- the protocol number of IGMP in an IPv4 header
abbrev pub protocol_igmp : ℕ
protocol_igmp = 2

-- the protocol number of PIM in an IPv4 header (RFC 7761, section 4.9)
abbrev pub protocol_pim : ℕ
protocol_pim = 103

-- the fields by their places
abbrev pub version_of : List ℕ → ℕ
version_of b = slice_index b 0 / 16

abbrev pub header_length_of : List ℕ → ℕ
header_length_of b = 4 * (slice_index b 0 % 16)

abbrev pub total_length_of : List ℕ → ℕ
total_length_of b = big_from 2 2 b

-- the more-fragments flag and the fragment offset, as one number
abbrev pub fragment_of : List ℕ → ℕ
fragment_of b = big_from 6 2 b % 0x4000

abbrev pub protocol_of : List ℕ → ℕ
protocol_of b = slice_index b 9

abbrev pub source_address_of : List ℕ → ℕ
source_address_of b = big_from 12 4 b

-- a source that may send: 0.0.0.0 with IGMP alone
abbrev pub is_source : ℕ → ℕ → Bool
is_source protocol address =
    nat_lt address first_multicast && (nat_lt 0 address || (protocol == protocol_igmp))

-- the packet in the bytes of one: its header's fields, and its payload
unfoldable pub packet_of : List ℕ → Packet
packet_of b = record {
  protocol = protocol_of b;
  time_to_live = slice_index b 8;
  source = source_address_of b;
  destination = big_from 16 4 b;
  header = take (header_length_of b) b;
  payload = slice_range b (header_length_of b) (total_length_of b);
}

-- a packet of at most 1528 bytes
unfoldable pub ipv4_reading : List ℕ → Result Packet Refusal
ipv4_reading b =
    expect (nat_le (length b) packet_limit) BadLength
    >> expect (nat_le 20 (length b)) Short
    >> expect (version_of b == 4) BadVersion
    >> expect (nat_le 20 (header_length_of b)) BadLength
    >> expect (nat_le (header_length_of b) (total_length_of b)) BadLength
    >> expect (nat_le (total_length_of b) (length b)) Short
    >> expect (sum16 (take (header_length_of b) b) == 0) BadChecksum
    >> expect (fragment_of b == 0) Fragment
    >> expect (is_source (protocol_of b) (source_address_of b)) BadAddress
    >> Ok (packet_of b)

-- the header of a control packet: type of service 0xC0 (internetwork control), no identification, no
-- fragment; its options, if any, fill whole words
unfoldable pub header_text : List ℕ → ℕ → ℕ → ℕ → ℕ → ℕ → List ℕ
header_text options time_to_live protocol source destination payload_length =
    with_checksum
    ((0x45 + length options / 4) ∷ 0xC0 ∷ big_bytes 2 (20 + length options + payload_length)
    ++ (0 ∷ 0 ∷ 0 ∷ 0 ∷ time_to_live ∷ protocol ∷ []))
    (big_bytes 4 source ++ big_bytes 4 destination ++ options)

-- the Router Alert option (RFC 2113)
abbrev pub router_alert : List ℕ
router_alert = 0x94 ∷ 0x04 ∷ 0 ∷ 0 ∷ []

-- a PIM message behind a header of 20 bytes
unfoldable pub pim_packet_text : ℕ → ℕ → ℕ → List ℕ → List ℕ
pim_packet_text time_to_live source destination message =
    header_text [] time_to_live protocol_pim source destination (length message) ++ message

-- an IGMP message behind a header of 24 bytes, with Router Alert and TTL 1
unfoldable pub igmp_packet_text : ℕ → ℕ → List ℕ → List ℕ
igmp_packet_text source destination message =
    header_text router_alert 1 protocol_igmp source destination (length message) ++ message

-- A data packet as it leaves: its header with the TTL one lower and the checksum updated.
unfoldable pub copy_text : Packet → List ℕ
copy_text p =
    with_checksum (take 8 p.header ++ (p.time_to_live - 1) ∷ p.protocol ∷ []) (drop 12 p.header) ++ p.payload
