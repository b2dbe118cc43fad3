-- The header of a PIM message (RFC 7761, section 4.9) and its encoded addresses (section 4.9.1), by
-- their places in the message.
use Rattle.std.{specs.Prelude.{ℕ, ◌+◌, ◌/◌, ◌%◌, Bool, ◌&&◌, ◌==◌, nat_le, List, [], ◌∷◌, length, slice_index, Result}}
use Rattle.byteorder.{specs.Endian.{big_from, big_bytes}}
use Rattle.pim_ip.{specs.{declared.refusal.Refusal.{Refusal, TheVariants.{Short, BadAddress, NotMulticast}}, Tests.{expect, ◌>>◌}, Checksum.with_checksum, Ipv4.is_multicast}}

-- the PIM version in the first byte of a message (RFC 7761, section 4.9)
abbrev pub pim_version_of : List ℕ → ℕ
pim_version_of b = slice_index b 0 / 16

-- the type in the first byte of a message (RFC 7761, section 4.9)
abbrev pub pim_type_of : List ℕ → ℕ
pim_type_of b = slice_index b 0 % 16

-- A message has n bytes from place p on; else it is too short.
abbrev pub field_test : List ℕ → ℕ → ℕ → Result (Unit {0}) Refusal
field_test b p n = expect (nat_le (p + n) (length b)) Short

-- The address at the place has address family 1 (IPv4) and the native encoding 0.
abbrev pub is_native_ipv4 : List ℕ → ℕ → Bool
is_native_ipv4 b p = (slice_index b p == 1) && (slice_index b (p + 1) == 0)

-- Encoded-Unicast: family, encoding, address.
abbrev pub unicast_at : List ℕ → ℕ → ℕ
unicast_at b p = big_from (p + 2) 4 b

-- The tests of an Encoded-Unicast address at a place: it is whole, and of IPv4 in the native encoding.
unfoldable pub unicast_test : List ℕ → ℕ → Result (Unit {0}) Refusal
unicast_test b p = field_test b p 6 >> expect (is_native_ipv4 b p) BadAddress

-- Encoded-Group and Encoded-Source: family, encoding, flags, mask length, address.
abbrev pub flags_at : List ℕ → ℕ → ℕ
flags_at b p = slice_index b (p + 2)

abbrev pub mask_length_at : List ℕ → ℕ → ℕ
mask_length_at b p = slice_index b (p + 3)

abbrev pub address_at : List ℕ → ℕ → ℕ
address_at b p = big_from (p + 4) 4 b

-- The tests of an Encoded-Source address at a place: it is whole, and of IPv4 in the native encoding.
unfoldable pub source_test : List ℕ → ℕ → Result (Unit {0}) Refusal
source_test b p = field_test b p 8 >> expect (is_native_ipv4 b p) BadAddress

-- The tests of an Encoded-Group address at a place: those of an Encoded-Source address, and it is multicast.
unfoldable pub group_test : List ℕ → ℕ → Result (Unit {0}) Refusal
group_test b p = source_test b p >> expect (is_multicast (address_at b p)) NotMulticast

-- The bytes of encoded addresses as they are written: native IPv4, mask length 32.
abbrev pub unicast_text : ℕ → List ℕ
unicast_text address = 1 ∷ 0 ∷ big_bytes 4 address

abbrev pub group_text : ℕ → List ℕ
group_text group = 1 ∷ 0 ∷ 0 ∷ 32 ∷ big_bytes 4 group

-- The bytes of an Encoded-Source address with these flags and the mask length of one host.
abbrev pub source_text : ℕ → ℕ → List ℕ
source_text flags address = 1 ∷ 0 ∷ flags ∷ 32 ∷ big_bytes 4 address

-- The bytes of a message whose checksum covers all of it: version 2 and the type, a reserved byte, the checksum, the
-- body.
unfoldable pub pim_text : ℕ → List ℕ → List ℕ
pim_text type body = with_checksum ((0x20 + type) ∷ 0 ∷ []) body
