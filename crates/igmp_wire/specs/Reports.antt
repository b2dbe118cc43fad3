-- Membership Report (RFC 3376, section 4.2): type 0x22.
use Rattle.std.{specs.Prelude.{ℕ, zero, suc, ◌+◌, ◌*◌, ◌||◌, ◌==◌, nat_le, is_none, if◌then◌else◌, List, [], ◌∷◌, ◌++◌, length, slice_index, filter, flat_map, Option, Some, None, Result, Ok}}
use Rattle.byteorder.{specs.Endian.{big_from, big_bytes}}
use Rattle.pim_ip.{specs.{declared.refusal.Refusal.{Refusal, TheVariants.{Short, NotMulticast}}, Tests.{expect, ◌>>◌}, Checksum.with_checksum, Ipv4.{is_multicast, is_unicast, is_link_local}}}
use Rattle.igmp_wire.{specs.{declared.report.RecordType.{RecordType, TheVariants.{IsInclude, IsExclude, ToInclude, ToExclude, Allow, Block}}, Values.Record, Queries.addresses_at}}

-- the type of a group record by its code (RFC 3376, section 4.2.12)
unfoldable pub type_of_code : ℕ → Option RecordType
type_of_code code =
    if code == 1 then Some IsInclude
    else (if code == 2 then Some IsExclude
    else (if code == 3 then Some ToInclude
    else (if code == 4 then Some ToExclude
    else (if code == 5 then Some Allow
    else (if code == 6 then Some Block
    else None)))))

-- the code of a type of group record (RFC 3376, section 4.2.12)
abbrev pub code_of_type : RecordType → ℕ
code_of_type IsInclude = 1
code_of_type IsExclude = 2
code_of_type ToInclude = 3
code_of_type ToExclude = 4
code_of_type Allow = 5
code_of_type Block = 6

-- A record at place p: type, length of the auxiliary data in words, number of sources, group, sources, auxiliary data.
abbrev pub record_type_at : List ℕ → ℕ → Option RecordType
record_type_at b p = type_of_code (slice_index b p)

-- the length of the auxiliary data of the record at a place, in words of 4 bytes
abbrev pub auxiliary_length_at : List ℕ → ℕ → ℕ
auxiliary_length_at b p = slice_index b (p + 1)

-- the number of sources of the record at a place
abbrev pub source_count_at : List ℕ → ℕ → ℕ
source_count_at b p = big_from (p + 2) 2 b

-- the group of the record at a place
abbrev pub record_group_at : List ℕ → ℕ → ℕ
record_group_at b p = big_from (p + 4) 4 b

-- The place after the record at place p.
abbrev pub after_record : List ℕ → ℕ → ℕ
after_record b p = p + 8 + 4 * source_count_at b p + 4 * auxiliary_length_at b p

-- The tests of n records from place p on; the group of an unknown type may be anything.
unfoldable pub records_test : List ℕ → ℕ → ℕ → Result (Unit {0}) Refusal
records_test b p zero = Ok tt
records_test b p (suc n) =
    let later : Result (Unit {0}) Refusal = records_test b (after_record b p) n in
    expect (nat_le (p + 8) (length b)) Short
    >> expect (is_none (record_type_at b p) || is_multicast (record_group_at b p)) NotMulticast
    >> expect (nat_le (after_record b p) (length b)) Short
    >> later

abbrev pub record_of_known_type : ℕ → List ℕ → Option RecordType → List Record
record_of_known_type group sources None = []
record_of_known_type group sources (Some type) = record { type = type; group = group; sources = sources } ∷ []

-- The record at place p, unless it is skipped for its type or for a group of 224.0.0.0/24.
unfoldable pub record_at : List ℕ → ℕ → List Record
record_at b p =
    if is_link_local (record_group_at b p) then []
    else record_of_known_type (record_group_at b p) (filter is_unicast (addresses_at b (p + 8) (source_count_at b p))) (record_type_at b p)

-- The n records from place p on, without those that are skipped.
unfoldable pub records_at : List ℕ → ℕ → ℕ → List Record
records_at b p zero = []
records_at b p (suc n) = record_at b p ++ records_at b (after_record b p) n

-- the number of group records of a report
abbrev pub record_count_of : List ℕ → ℕ
record_count_of b = big_from 6 2 b

-- The tests of a report: each of its records is whole.
unfoldable pub report_test : List ℕ → Result (Unit {0}) Refusal
report_test b = records_test b 8 (record_count_of b)

-- The records of a report that passes its tests.
unfoldable pub report_of : List ℕ → List Record
report_of b = records_at b 8 (record_count_of b)

-- The bytes of a group record.
abbrev pub record_text : Record → List ℕ
record_text r =
    code_of_type r.type ∷ 0 ∷ big_bytes 2 (length r.sources) ++ big_bytes 4 r.group ++ flat_map (big_bytes 4) r.sources

-- The bytes of a report with these records.
unfoldable pub report_text : List Record → List ℕ
report_text records =
    with_checksum (0x22 ∷ 0 ∷ []) (0 ∷ 0 ∷ big_bytes 2 (length records) ++ flat_map record_text records)
