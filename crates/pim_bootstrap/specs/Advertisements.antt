-- Candidate-RP-Advertisement (RFC 5059, section 4.2): type 8, by unicast to the BSR. A candidate RP says the ranges of
-- groups for which it would be the RP.
use Rattle.std.{specs.{List.{All, flat_map}, Prelude.{◌≡◌, ℕ, zero, suc, ◌+◌, ◌-◌, ◌*◌, ◌/◌, ◌%◌, ◌^◌, ◌<◌, ◌≤◌, Bool, IsTrue, true, false, ◌&&◌, ◌==◌, nat_le, List, [], ◌∷◌, ◌++◌, length, slice_index, Result, Ok}}}
use Rattle.byteorder.{specs.Endian.{big_from, big_bytes}}
use Rattle.pim_ip.{specs.{declared.{addr.Prefix.Prefix, refusal.Refusal.{Refusal, TheVariants.{BadAddress, BadLength}}}, Addr.addr, Ipv4.{is_multicast, is_unicast}, Tests.{expect, ◌>>◌}}}
use Rattle.pim_wire.{specs.Encoded.{address_at, field_test, flags_at, group_test, mask_length_at, pim_text, unicast_at, unicast_test, unicast_text}}
use Rattle.pim_bootstrap.{specs.{Bootstraps.group_flags, declared.advertisement.AdvertisedRange.AdvertisedRange}}

-- ---- what an advertisement says

pub record Advertisement : Type 0 where
  -- the lower number is preferred
  pub priority : ℕ
  -- in seconds
  pub holdtime : ℕ
  pub rp : ℕ
  pub ranges : List AdvertisedRange

-- ---- its reading

-- The tests of the range at place p: its group, a mask of 4 to 32 bits.
unfoldable pub advertised_test : List ℕ → ℕ → Result (Unit {0}) Refusal
advertised_test b p =
    group_test b p >> expect (nat_le 4 (mask_length_at b p) && nat_le (mask_length_at b p) 32) BadLength

-- the range at a place
abbrev pub advertised_at : List ℕ → ℕ → AdvertisedRange
advertised_at b p = record {
  group = addr (address_at b p);
  length = mask_length_at b p;
  bidir = nat_le 0x80 (flags_at b p);
  zone = flags_at b p % 2 == 1;
}

-- the tests of n ranges from place p on
unfoldable pub all_advertised_test : List ℕ → ℕ → ℕ → Result (Unit {0}) Refusal
all_advertised_test b p zero = Ok tt
all_advertised_test b p (suc n) =
    let later : Result (Unit {0}) Refusal = all_advertised_test b (p + 8) n in
    advertised_test b p >> later

-- the n ranges from place p on
unfoldable pub all_advertised_at : List ℕ → ℕ → ℕ → List AdvertisedRange
all_advertised_at b p zero = []
all_advertised_at b p (suc n) = advertised_at b p ∷ all_advertised_at b (p + 8) n

-- the prefix of a range; bits past its mask don't count
unfoldable pub advertised_prefix : AdvertisedRange → Prefix
advertised_prefix r =
    record { address = addr (r.group.bits / 2 ^ (32 - r.length) * 2 ^ (32 - r.length)); length = r.length }

-- the prefix count
abbrev pub prefix_count_of : List ℕ → ℕ
prefix_count_of b = slice_index b 4

-- 224.0.0.0/4
abbrev pub all_groups : AdvertisedRange
all_groups = record { group = addr 0xE000_0000; length = 4; bidir = false; zone = false }

-- all groups before other ranges, or not
abbrev pub all_before : Bool → List AdvertisedRange → List AdvertisedRange
all_before true ranges = all_groups ∷ ranges
all_before false ranges = ranges

-- An advertisement without ranges is of all groups (3.3).
abbrev pub ranges_or_all : ℕ → List AdvertisedRange → List AdvertisedRange
ranges_or_all count ranges = all_before (count == 0) ranges

-- The tests of an advertisement: the prefix count, priority and holdtime, the RP's address, the ranges. Bytes after them
-- count for the checksum alone.
unfoldable pub advertisement_test : List ℕ → Result (Unit {0}) Refusal
advertisement_test b =
    field_test b 4 4
    >> unicast_test b 8
    >> expect (is_unicast (unicast_at b 8)) BadAddress
    >> all_advertised_test b 14 (prefix_count_of b)

-- the content of an advertisement that passes its tests
unfoldable pub advertisement_of : List ℕ → Advertisement
advertisement_of b = record {
  priority = slice_index b 5;
  holdtime = big_from 6 2 b;
  rp = unicast_at b 8;
  ranges = ranges_or_all (prefix_count_of b) (all_advertised_at b 14 (prefix_count_of b));
}

-- the reading of an advertisement whose header was tested
abbrev pub advertisement_reading : List ℕ → Result Advertisement Refusal
advertisement_reading b = advertisement_test b >> Ok (advertisement_of b)

-- ---- its text

-- the bytes of a range
abbrev pub advertised_text : AdvertisedRange → List ℕ
advertised_text r = 1 ∷ 0 ∷ group_flags r.bidir r.zone ∷ r.length ∷ big_bytes 4 r.group.bits

-- the bytes of an advertisement
unfoldable pub advertisement_text : Advertisement → List ℕ
advertisement_text a =
    pim_text 8
    (length a.ranges ∷ a.priority ∷ big_bytes 2 a.holdtime ++ unicast_text a.rp ++ flat_map advertised_text a.ranges)

-- a range that an advertisement can say
pub record IsAdvertised (r : AdvertisedRange) : Type 0 where
  pub group : IsTrue (is_multicast r.group.bits)
  pub shortest : 4 ≤ r.length
  pub longest : r.length ≤ 32

-- An advertisement whose fields fit reads back. A candidate RP names a range at least: one without is of all groups.
abbrev pub AdvertisementReads : Type 0
AdvertisementReads =
    (a : Advertisement) → a.priority < 2 ^ 8 → a.holdtime < 2 ^ 16 → IsTrue (is_unicast a.rp) → All IsAdvertised a.ranges
    → 0 < length a.ranges → length a.ranges < 2 ^ 8 → advertisement_reading (advertisement_text a) ≡ Ok a

-- ---- what is known of an advertisement that was read

-- it passed its tests
pub record IsTestedAdvertisement (a : Advertisement) : Type 0 where
  pub rp : IsTrue (is_unicast a.rp)
  pub ranges : All IsAdvertised a.ranges
  pub some : 0 < length a.ranges

-- whatever the bytes, an advertisement that was read passed its tests
abbrev pub AdvertisementIsTested : Type 0
AdvertisementIsTested = (b : List ℕ) (a : Advertisement) → advertisement_reading b ≡ Ok a → IsTestedAdvertisement a
