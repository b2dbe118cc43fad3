-- What the tests of a packet answer, each where those before it passed.
use Rattle.std.{proofs.{Common.{◌≡◌, ◌≢◌, ℕ, ◌<◌, ◌≤◌, true, false, List, length, take, slice_range, Ok, Err, sym, ap, ◌∙◌, arith}, lemmas.{Bool.Decides.nat_tests, Grind.and_numeral, List.get_or-take}}}
use Rattle.pim_ip.{specs.{declared.refusal.Refusal.TheVariants.{Short, BadVersion, BadChecksum, BadLength, BadAddress, Fragment}, Checksum.sum16, Ipv4.{packet_limit, version_of, header_length_of, total_length_of, fragment_of, protocol_of, source_address_of, is_source, packet_of, ipv4_reading}, View.packet_from}}

-- the fields stand in the first 20 bytes
packet_from-take : (b : List ℕ) (n : ℕ) (payload : List ℕ) → 20 ≤ n
    → packet_from (take n b) payload ≡ record (packet_from b payload) { header = take n b }
packet_from-take b n payload h = grind (arith, get_or-take)

-- the lengths and the version are right
pub record IsMeasured (b : List ℕ) : Type 0 where
  pub within_limit : length b ≤ packet_limit
  pub long_enough : 20 ≤ length b
  pub version : version_of b ≡ 4
  pub header_length : 20 ≤ header_length_of b
  pub total_length : header_length_of b ≤ total_length_of b
  pub whole : total_length_of b ≤ length b

-- the answers in the order of the tests
module _ (b : List ℕ) where
  pub bytes_long : packet_limit < length b → ipv4_reading b ≡ Err BadLength
  unfolding ipv4_reading
  bytes_long l = grind (arith, nat_tests)

  pub header_cut : length b < 20 → ipv4_reading b ≡ Err Short
  unfolding ipv4_reading
  header_cut s = grind (arith, nat_tests)

  pub version_wrong : length b ≤ packet_limit → 20 ≤ length b → version_of b ≢ 4 → ipv4_reading b ≡ Err BadVersion
  unfolding ipv4_reading
  version_wrong l s v = grind (arith, nat_tests)

  pub header_short : length b ≤ packet_limit → 20 ≤ length b → version_of b ≡ 4 → header_length_of b < 20
      → ipv4_reading b ≡ Err BadLength
  unfolding ipv4_reading
  header_short l s v h = grind (arith, nat_tests)

  pub total_short : length b ≤ packet_limit → 20 ≤ length b → version_of b ≡ 4 → 20 ≤ header_length_of b
      → total_length_of b < header_length_of b → ipv4_reading b ≡ Err BadLength
  unfolding ipv4_reading
  total_short l s v h t = grind (arith, nat_tests)

  pub bytes_short : length b ≤ packet_limit → 20 ≤ length b → version_of b ≡ 4 → 20 ≤ header_length_of b
      → header_length_of b ≤ total_length_of b → length b < total_length_of b → ipv4_reading b ≡ Err Short
  unfolding ipv4_reading
  bytes_short l s v h t w = grind (arith, nat_tests)

  pub checksum_wrong : IsMeasured b → sum16 (take (header_length_of b) b) ≢ 0 → ipv4_reading b ≡ Err BadChecksum
  unfolding ipv4_reading
  checksum_wrong m e = grind (arith, nat_tests)

  pub fragment_found : IsMeasured b → sum16 (take (header_length_of b) b) ≡ 0 → fragment_of b ≢ 0 → ipv4_reading b ≡ Err Fragment
  unfolding ipv4_reading
  fragment_found m e f = grind (arith, nat_tests)

  pub source_wrong : IsMeasured b → sum16 (take (header_length_of b) b) ≡ 0 → fragment_of b ≡ 0
      → is_source (protocol_of b) (source_address_of b) ≡ false → ipv4_reading b ≡ Err BadAddress
  unfolding ipv4_reading
  source_wrong m e f s = grind (arith, nat_tests)

  -- where all tests passed
  packet_read : IsMeasured b → sum16 (take (header_length_of b) b) ≡ 0 → fragment_of b ≡ 0
      → is_source (protocol_of b) (source_address_of b) ≡ true → ipv4_reading b ≡ Ok (packet_of b)
  unfolding ipv4_reading
  packet_read m e f s = grind (arith, nat_tests)

  -- where all tests passed the packet is read, by its header and its payload
  pub packet_found : IsMeasured b → sum16 (take (header_length_of b) b) ≡ 0 → fragment_of b ≡ 0
      → is_source (protocol_of b) (source_address_of b) ≡ true → (header payload : List ℕ) → header ≡ take (header_length_of b) b
      → payload ≡ slice_range b (header_length_of b) (total_length_of b) → Ok (packet_from header payload) ≡ ipv4_reading b
  unfolding packet_of
  packet_found m e f s header payload eh ep =
      rw (eh, ep) (ap Ok (packet_from-take b (header_length_of b) (slice_range b (header_length_of b) (total_length_of b)) m.header_length) ∙ sym (packet_read m e f s))

-- the refusals, and the low bits that the code takes by a mask
pub ruleset refused = (bytes_long, header_cut, version_wrong, header_short, total_short, bytes_short, checksum_wrong, fragment_found, source_wrong, and_numeral)
