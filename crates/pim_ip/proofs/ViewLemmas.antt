-- A packet is read as itself, whatever follows it within the limit: a packet that was read, a copy of it, and a
-- written header with its payload.
use Rattle.std.{proofs.{Common.{◌≡◌, ℕ, ◌+◌, ◌-◌, ◌/◌, ◌%◌, ◌^◌, ◌<◌, ◌≤◌, IsTrue, List, [], ◌∷◌, ◌++◌, length, take, drop, get_or, slice_range, Ok, refl, sym, ap, ◌∙◌, arith}, lemmas.{Bool.Decides.nat_tests, List.{append_assoc, length-append, get_or_append_left, get_or-take, get_or-drop, get_or-append_right, take_at, drop_at, length-drop, length-take-le}}}}
use Rattle.byteorder.{specs.{Endian.{big_from, big_bytes}, Numbers.big_number-reads_back}}
use Rattle.pim_ip.{specs.{Checksum.{sum16, with_checksum}, Ipv4.{Packet, packet_limit, header_length_of, total_length_of, protocol_of, source_address_of, is_source, header_text, copy_text, ipv4_reading}, View.{packet_from, IsPacket, ReadsAs, copied_header, copied, written_packet}}, proofs.{ReadingLemmas.{IsMeasured, packet_found}, ChecksumLemmas.sum16-with_checksum, WritingLemmas.length-with_checksum}}

-- a header, its payload and what follows
module _ (header payload more : List ℕ) where
  abbrev whole : List ℕ
  whole = (header ++ payload) ++ more

  -- the fields are those of the header
  byte-whole : (i : ℕ) → i < length header → get_or whole i 0 ≡ get_or header i 0
  byte-whole i h = grind (arith, get_or_append_left, length-append)

  -- the header stands first
  take-whole : (n : ℕ) → n ≡ length header → take n whole ≡ header
  take-whole n e = rw append_assoc (take_at header (payload ++ more) n (sym e))

  -- after the header comes the payload
  slice_range-whole : (n m : ℕ) → n ≡ length header → m ≡ length header + length payload → slice_range whole n m ≡ payload
  slice_range-whole n m en em = rw (append_assoc, drop_at header (payload ++ more) n (sym en)) (take_at payload more (m - n) (omega arith))

  -- the bytes of a header and a payload are read as the packet
  reading-whole : IsPacket header payload → length whole ≤ packet_limit → ipv4_reading whole ≡ Ok (packet_from header payload)
  reading-whole h fits =
      let first = byte-whole 0 (omega arith) in
      let header_length : header_length_of whole ≡ length header = rw first h.header_length in
      let total_length : total_length_of whole ≡ length header + length payload =
      rw (byte-whole 2 (omega arith), byte-whole 3 (omega arith)) h.total_length in
      let long = length-append (header ++ payload) more in
      let shorter = length-append header payload in
      let measured : IsMeasured whole = record {
        within_limit = fits;
        long_enough = omega arith;
        version = rw first h.version;
        header_length = omega arith;
        total_length = omega arith;
        whole = omega arith;
      } in
      let front = take-whole (header_length_of whole) header_length in
      sym (packet_found whole measured
      (rw front h.checksum)
      (rw (byte-whole 6 (omega arith), byte-whole 7 (omega arith)) h.unfragmented)
      (rw (byte-whole 9 (omega arith), byte-whole 12 (omega arith), byte-whole 13 (omega arith), byte-whole 14 (omega arith), byte-whole 15 (omega arith)) h.source)
      header payload (sym front) (sym (slice_range-whole (header_length_of whole) (total_length_of whole) header_length total_length)))

-- a header and a payload that are a packet, as long as they are within the limit
pub reads_within : (header payload : List ℕ) → (length header + length payload ≤ packet_limit → IsPacket header payload)
    → ReadsAs (header ++ payload) (packet_from header payload)
reads_within header payload h = record {
  reading = λ more fits.
      let long = length-append (header ++ payload) more in
      let shorter = length-append header payload in
      reading-whole header payload more (h (omega arith)) fits;
}

-- a packet that was read is read again
pub reads_as_itself : (header payload : List ℕ) → IsPacket header payload → ReadsAs (header ++ payload) (packet_from header payload)
reads_as_itself header payload h = reads_within header payload (λ fits. h)

-- a header with another time to live and its checksum made anew
module _ (header : List ℕ) (time_to_live : ℕ) where
  abbrev before : List ℕ
  before = take 8 header ++ time_to_live ∷ protocol_of header ∷ []

  abbrev changed : List ℕ
  changed = with_checksum before (drop 12 header)

  -- the checksum stands at place 10
  length-before : 12 ≤ length header → length before ≡ 10
  length-before h =
      let front = length-take-le 8 header (omega arith) in
      omega (arith, length-append (take 8 header) (time_to_live ∷ protocol_of header ∷ []))

  -- the header keeps its length
  length-changed : 12 ≤ length header → length changed ≡ length header
  length-changed h =
      let front = length-before h in
      omega (arith, length-with_checksum before (drop 12 header), length-drop 12 header)

  -- what stands before the checksum
  changed-front : (i : ℕ) → i < 10 → 12 ≤ length header → get_or changed i 0 ≡ get_or before i 0
  unfolding with_checksum
  changed-front i low h = let front = length-before h in grind (arith, get_or_append_left, length-append)

  -- the fields before the time to live are kept
  changed-low : (i : ℕ) → i < 8 → 12 ≤ length header → get_or changed i 0 ≡ get_or header i 0
  changed-low i low h =
      let front = length-take-le 8 header (omega arith) in
      changed-front i (omega arith) h
      ∙ get_or_append_left (take 8 header) (time_to_live ∷ protocol_of header ∷ []) 0 i (omega arith)
      ∙ get_or-take 8 header i 0 low

  -- the time to live is the new one
  changed-time_to_live : 12 ≤ length header → get_or changed 8 0 ≡ time_to_live
  changed-time_to_live h =
      changed-front 8 (omega arith) h
      ∙ get_or-append_right (take 8 header) (time_to_live ∷ protocol_of header ∷ []) 8 8 0 (length-take-le 8 header (omega arith)) (omega arith)

  -- the protocol is kept
  changed-protocol : 12 ≤ length header → get_or changed 9 0 ≡ get_or header 9 0
  changed-protocol h =
      changed-front 9 (omega arith) h
      ∙ get_or-append_right (take 8 header) (time_to_live ∷ protocol_of header ∷ []) 8 9 0 (length-take-le 8 header (omega arith)) (omega arith)

  -- the fields after the checksum are kept
  changed-high : (i : ℕ) → 12 ≤ i → 12 ≤ length header → get_or changed i 0 ≡ get_or header i 0
  unfolding with_checksum
  changed-high i high h =
      let sum : List ℕ = big_bytes 2 (sum16 (before ++ 0 ∷ 0 ∷ drop 12 header)) in
      let front : length (before ++ sum) ≡ 12 = length-append before sum ∙ rw (length-before h) refl in
      let same : 12 + (i - 12) ≡ i = omega arith in
      get_or-append_right (before ++ sum) (drop 12 header) 12 i 0 front high
      ∙ get_or-drop 12 header (i - 12) 0 ∙ ap (λ (k : ℕ). get_or header k 0) same

  -- the source is kept
  source-changed : 12 ≤ length header → source_address_of changed ≡ source_address_of header
  source-changed h =
      rw (changed-high 12 (omega arith) h, changed-high 13 (omega arith) h, changed-high 14 (omega arith) h, changed-high 15 (omega arith) h) refl

  -- the destination is kept
  destination-changed : 12 ≤ length header → big_from 16 4 changed ≡ big_from 16 4 header
  destination-changed h =
      rw (changed-high 16 (omega arith) h, changed-high 17 (omega arith) h, changed-high 18 (omega arith) h, changed-high 19 (omega arith) h) refl

  -- the header is one of a packet still
  changed-IsPacket : (payload : List ℕ) → IsPacket header payload → IsPacket changed payload
  changed-IsPacket payload h =
      let long : 12 ≤ length header = omega arith in
      let first = changed-low 0 (omega arith) long in
      let size = length-changed long in
      record {
        long_enough = omega arith;
        version = rw first h.version;
        header_length = rw (first, size) h.header_length;
        total_length = rw (changed-low 2 (omega arith) long, changed-low 3 (omega arith) long, size) h.total_length;
        within_limit = rw size h.within_limit;
        checksum = sum16-with_checksum 5 before (drop 12 header) (length-before long);
        unfragmented = rw (changed-low 6 (omega arith) long, changed-low 7 (omega arith) long) h.unfragmented;
        source = rw (changed-protocol long, source-changed long) h.source;
      }

  -- the packet is the same but for the time to live
  packet_from-changed : (payload : List ℕ) → 12 ≤ length header
      → packet_from changed payload ≡ record (packet_from header payload) { time_to_live = time_to_live; header = changed }
  packet_from-changed payload long =
      rw (changed-time_to_live long, changed-protocol long, source-changed long, destination-changed long) refl

-- a copy of a packet is read as the copied packet
pub copy_reads : (header payload : List ℕ) (p : Packet) → packet_from header payload ≡ p → IsPacket header payload
    → ReadsAs (copy_text p) (copied p)
unfolding copy_text copied_header
copy_reads header payload p e h =
    let time_to_live : ℕ = get_or header 8 0 - 1 in
    rw (← e, ← packet_from-changed header time_to_live payload (omega arith)) (reads_as_itself (changed header time_to_live) payload (changed-IsPacket header time_to_live payload h))

-- a header as it is written, before a payload
module _ (options : List ℕ) (time_to_live protocol source destination : ℕ) (payload : List ℕ) (words : length options % 4 ≡ 0)
    (few : length options ≤ 40) (destination_fits : destination < 2 ^ 32) (lawful : IsTrue (is_source protocol source)) where
  abbrev text : List ℕ
  text = header_text options time_to_live protocol source destination (length payload)

  -- a source is below the groups
  source_fits : source < 2 ^ 32
  source_fits = grind (arith, nat_tests)

  -- the source that is read
  source-text : source_address_of text ≡ source
  unfolding header_text with_checksum
  source-text = big_number-reads_back 4 source [] source_fits

  -- the destination that is read
  destination-text : big_from 16 4 text ≡ destination
  unfolding header_text with_checksum
  destination-text = big_number-reads_back 4 destination [] destination_fits

  -- the header and the payload are a packet
  text-IsPacket : length text + length payload ≤ packet_limit → IsPacket text payload
  unfolding header_text with_checksum
  text-IsPacket fits = record {
    long_enough = omega arith;
    version = omega arith;
    header_length = omega arith;
    total_length = big_number-reads_back 2 (20 + length options + length payload) [] (omega arith) ∙ omega arith;
    within_limit = fits;
    checksum = sum16-with_checksum 5 ((0x45 + length options / 4) ∷ 0xC0 ∷ big_bytes 2 (20 + length options + length payload) ++ (0 ∷ 0 ∷ 0 ∷ 0 ∷ time_to_live ∷ protocol ∷ [])) (big_bytes 4 source ++ big_bytes 4 destination ++ options) refl;
    unfragmented = refl;
    source = rw source-text lawful;
  }

  -- the packet that is read
  packet_from-text : packet_from text payload ≡ written_packet options time_to_live protocol source destination payload
  unfolding header_text with_checksum
  packet_from-text = rw (source-text, destination-text) refl

  -- the header with its payload is read as it was written
  pub written_reads : ReadsAs (text ++ payload) (written_packet options time_to_live protocol source destination payload)
  written_reads = rw (← packet_from-text) (reads_within text payload text-IsPacket)
