-- Register and Register-Stop (RFC 7761, sections 4.9.3 and 4.9.4): types 1 and 2.
use Rattle.std.{specs.Prelude.{ℕ, ◌/◌, ◌%◌, Bool, true, false, ◌||◌, ◌==◌, nat_le, List, [], ◌∷◌, ◌++◌, length, take, drop, slice_index, Result, Ok, Err}}
use Rattle.byteorder.{specs.Endian.{big_from, big_bytes}}
use Rattle.pim_ip.{specs.{declared.refusal.Refusal.{Refusal, TheVariants.{Short, BadChecksum, BadLength, BadAddress, NotMulticast}}, Tests.{expect, ◌>>◌}, Checksum.{sum16, with_checksum}, Ipv4.{frame_limit, Packet, ipv4_reading, packet_of, is_multicast, is_unicast, protocol_pim}, Addr.addr}}
use Rattle.pim_wire.{specs.{declared.register.RegisterStop.RegisterStop, Values.{Register, Encapsulated, Null}, Encoded.{group_test, unicast_test, address_at, mask_length_at, unicast_at, group_text, unicast_text, pim_text}}}

-- The N bit is set: the message is a Null-Register.
abbrev pub is_null_register : List ℕ → Bool
is_null_register b = (slice_index b 4 / 0x40) % 2 == 1

-- The bytes of the packet in a Register.
abbrev pub inner_of : List ℕ → List ℕ
inner_of b = drop 8 b

-- A packet that was read is from a host to a group.
unfoldable pub source_and_group_test : Result Packet Refusal → Result (Unit {0}) Refusal
source_and_group_test (Err refusal) = Err refusal
source_and_group_test (Ok p) =
    expect (is_unicast p.source) BadAddress >> expect (is_multicast p.destination) NotMulticast

-- The tests of the packet in a Register: it fits a frame, and is an IPv4 packet from a host to a group.
unfoldable pub inner_test : List ℕ → Result (Unit {0}) Refusal
inner_test i = expect (nat_le (length i) frame_limit) BadLength >> source_and_group_test (ipv4_reading i)

-- The tests of the header in a Null-Register: its checksum may be 0, and only its length, version and two addresses are
-- tested.
unfoldable pub null_inner_test : List ℕ → Result (Unit {0}) Refusal
null_inner_test i =
    expect (nat_le 20 (length i)) Short
    >> expect ((big_from 10 2 i == 0) || (sum16 (take 20 i) == 0)) BadChecksum
    >> expect (is_unicast (big_from 12 4 i)) BadAddress
    >> expect (is_multicast (big_from 16 4 i)) NotMulticast

-- The tests of a Register: of the packet in it, or of the header in a Null-Register.
unfoldable pub register_test : List ℕ → Result (Unit {0}) Refusal
register_test b =
    elim (is_null_register b) [ true ↦ null_inner_test (inner_of b) | false ↦ inner_test (inner_of b) ]

-- The content of a Register that passes its tests.
unfoldable pub register_of : List ℕ → Register
register_of b =
    elim (is_null_register b) [
      | true ↦ Null (big_from 12 4 (inner_of b)) (big_from 16 4 (inner_of b))
      | false ↦ Encapsulated (packet_of (inner_of b))
    ]

-- The tests of a Register-Stop: its Encoded-Group and Encoded-Unicast address.
unfoldable pub register_stop_test : List ℕ → Result (Unit {0}) Refusal
register_stop_test b = group_test b 4 >> unicast_test b 12

-- The content of a Register-Stop that passes its tests.
unfoldable pub register_stop_of : List ℕ → RegisterStop
register_stop_of b = record {
  group = addr (address_at b 4);
  mask_length = mask_length_at b 4;
  source = addr (unicast_at b 12);
}

-- The bytes of a Register around a packet: the checksum covers only the first 8 bytes.
unfoldable pub register_text : List ℕ → List ℕ
register_text inner = with_checksum (0x21 ∷ 0 ∷ []) (0 ∷ 0 ∷ 0 ∷ 0 ∷ []) ++ inner

-- The bytes of the header in a Null-Register.
unfoldable pub dummy_text : ℕ → ℕ → List ℕ
dummy_text source group =
    with_checksum
    (0x45 ∷ 0 ∷ 0 ∷ 20 ∷ 0 ∷ 0 ∷ 0 ∷ 0 ∷ 1 ∷ protocol_pim ∷ [])
    (big_bytes 4 source ++ big_bytes 4 group)

-- The bytes of the Null-Register of a source to a group (RFC 7761, section 4.9.3).
unfoldable pub null_register_text : ℕ → ℕ → List ℕ
null_register_text source group =
    with_checksum (0x21 ∷ 0 ∷ []) (0x40 ∷ 0 ∷ 0 ∷ 0 ∷ []) ++ dummy_text source group

-- The bytes of a Register-Stop of a group and a source (RFC 7761, section 4.9.4).
unfoldable pub register_stop_text : ℕ → ℕ → List ℕ
register_stop_text group source = pim_text 2 (group_text group ++ unicast_text source)
