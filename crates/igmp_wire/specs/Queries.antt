-- Membership Query (RFC 3376, section 4.1): type 0x11.
use Rattle.std.{specs.Prelude.{ℕ, zero, suc, ◌+◌, ◌*◌, ◌/◌, ◌%◌, ◌||◌, ◌==◌, nat_le, not, if◌then◌else◌, List, [], ◌∷◌, ◌++◌, length, slice_index, flat_map, Result}}
use Rattle.byteorder.{specs.Endian.{big_from, big_bytes}}
use Rattle.pim_ip.{specs.{declared.refusal.Refusal.{Refusal, TheVariants.{Short, BadLength, NotMulticast, OldVersion}}, Tests.{expect, ◌>>◌}, Checksum.with_checksum, Ipv4.is_multicast}}
use Rattle.igmp_wire.{specs.Values.Query}

-- The n addresses from place p on.
unfoldable pub addresses_at : List ℕ → ℕ → ℕ → List ℕ
addresses_at b p zero = []
addresses_at b p (suc n) = big_from p 4 b ∷ addresses_at b (p + 4) n

-- the group of a query; 0 in a General Query
abbrev pub group_of : List ℕ → ℕ
group_of b = big_from 4 4 b

-- the number of sources of a query
abbrev pub source_count_of : List ℕ → ℕ
source_count_of b = big_from 10 2 b

-- The tests of a query: 8 bytes are a query of an older version, 9 to 11 are no query.
unfoldable pub query_test : List ℕ → Result (Unit {0}) Refusal
query_test b =
    expect (not (length b == 8)) OldVersion
    >> expect (nat_le 12 (length b)) BadLength
    >> expect ((group_of b == 0) || is_multicast (group_of b)) NotMulticast
    >> expect (nat_le (12 + 4 * source_count_of b) (length b)) Short

-- The content of a query that passes its tests.
unfoldable pub query_of : List ℕ → Query
query_of b = record {
  max_response_code = slice_index b 1;
  group = group_of b;
  suppress = slice_index b 8 / 8 % 2 == 1;
  robustness = slice_index b 8 % 8;
  interval_code = slice_index b 9;
  sources = addresses_at b 12 (source_count_of b);
}

-- The bytes of a query, with its codes given.
unfoldable pub query_text : Query → List ℕ
query_text q =
    with_checksum (0x11 ∷ q.max_response_code ∷ [])
    (big_bytes 4 q.group
    ++ ((if q.suppress then 8 else 0) + q.robustness) ∷ q.interval_code ∷ big_bytes 2 (length q.sources)
    ++ flat_map (big_bytes 4) q.sources)
