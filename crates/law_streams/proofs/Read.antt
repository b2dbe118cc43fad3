-- A copy of a packet that was read is read with a TTL one lower.
use Rattle.std.{proofs.{Common.{◌≡◌, ◌∙◌, ℕ, ◌-◌, ◌<◌, ◌≤◌, List, length, take, get_or, slice_range, Ok, refl, arith}, lemmas.List.{get_or-take, length-drop, length-take-le}}}
use Rattle.pim_ip.{specs.{Ipv4.{Packet, header_length_of, ipv4_reading, total_length_of}, View.{IsPacket, packet_from}}, proofs.{ReadingLemmas.packet_found, ViewLemmas.copy_reads}}
use Rattle.law_settled.{proofs.ReadPackets.{Passed, passed}}
use Rattle.law_streams.{specs.Copies.CopiesReadLower}

module _ (b : List ℕ) (f : Passed b) where
  abbrev header : List ℕ
  header = take (header_length_of b) b

  abbrev payload : List ℕ
  payload = slice_range b (header_length_of b) (total_length_of b)

  byte : (i : ℕ) → i < 20 → get_or header i 0 ≡ get_or b i 0
  byte i low =
      let long : 20 ≤ header_length_of b = (f.measured).header_length in
      get_or-take (header_length_of b) b i 0 (omega (arith, long))

  long : length header ≡ header_length_of b
  long = grind (arith, length-take-le)

  payload_long : length payload ≡ total_length_of b - header_length_of b
  payload_long = grind (arith, length-drop, length-take-le)

  is_packet : IsPacket header payload
  is_packet = grind (arith, long, byte, payload_long)

-- what is read, by its header and its payload
pub read_is : (b : List ℕ) (p : Packet) → ipv4_reading b ≡ Ok p
    → packet_from (take (header_length_of b) b) (slice_range b (header_length_of b) (total_length_of b)) ≡ p
read_is b p e =
    let f : Passed b = passed b p e in
    let found : Ok (packet_from (header b f) (payload b f)) ≡ Ok p =
    packet_found b f.measured f.checksum f.unfragmented f.source (header b f) (payload b f) refl refl ∙ e in
    cc found

pub copies_read_lower : CopiesReadLower
copies_read_lower b p e =
    let f : Passed b = passed b p e in
    copy_reads (header b f) (payload b f) p (read_is b p e) (is_packet b f)
