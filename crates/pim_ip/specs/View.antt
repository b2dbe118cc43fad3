-- What a packet's header and payload say, and when they are a whole packet.
use Rattle.std.{specs.Prelude.{◌≡◌, ℕ, ◌+◌, ◌-◌, ◌≤◌, IsTrue, List, [], ◌∷◌, ◌++◌, length, take, drop, slice_index, Ok}}
use Rattle.byteorder.{specs.Endian.big_from}
use Rattle.pim_ip.{specs.{Checksum.{sum16, with_checksum}, Ipv4.{Packet, packet_limit, version_of, header_length_of, total_length_of, fragment_of, protocol_of, source_address_of, is_source, header_text, ipv4_reading}}}

-- the packet of this header and this payload
abbrev pub packet_from : List ℕ → List ℕ → Packet
packet_from header payload = record {
  protocol = protocol_of header;
  time_to_live = slice_index header 8;
  source = source_address_of header;
  destination = big_from 16 4 header;
  header = header;
  payload = payload;
}

-- The header and the payload have the lengths that the header gives, and no field is refused.
pub record IsPacket (header payload : List ℕ) : Type 0 where
  pub long_enough : 20 ≤ length header
  pub version : version_of header ≡ 4
  pub header_length : header_length_of header ≡ length header
  pub total_length : total_length_of header ≡ length header + length payload
  pub within_limit : length header + length payload ≤ packet_limit
  pub checksum : sum16 header ≡ 0
  pub unfragmented : fragment_of header ≡ 0
  pub source : IsTrue (is_source (protocol_of header) (source_address_of header))

-- the text is read as the packet, whatever follows it within the limit
pub record ReadsAs (text : List ℕ) (packet : Packet) : Type 0 where
  pub reading : (more : List ℕ) → length (text ++ more) ≤ packet_limit → ipv4_reading (text ++ more) ≡ Ok packet

-- A header with its time to live one lower, and the checksum updated.
unfoldable pub lowered_header : List ℕ → List ℕ
lowered_header header =
    with_checksum (take 8 header ++ (slice_index header 8 - 1) ∷ slice_index header 9 ∷ []) (drop 12 header)

-- The header of a copy: the time to live one lower, and the checksum updated.
unfoldable pub copied_header : Packet → List ℕ
copied_header p =
    with_checksum (take 8 p.header ++ (p.time_to_live - 1) ∷ p.protocol ∷ []) (drop 12 p.header)

-- the packet that a copy is
abbrev pub copied : Packet → Packet
copied p = record p { time_to_live = p.time_to_live - 1; header = copied_header p }

-- The packet of a written header and a payload of the length that it gives.
abbrev pub written_packet : List ℕ → ℕ → ℕ → ℕ → ℕ → List ℕ → Packet
written_packet options time_to_live protocol source destination payload = record {
  protocol = protocol;
  time_to_live = time_to_live;
  source = source;
  destination = destination;
  header = header_text options time_to_live protocol source destination (length payload);
  payload = payload;
}
