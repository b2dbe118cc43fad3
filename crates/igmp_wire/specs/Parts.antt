-- The parts of a message as they are read: a query, a report, a record of it.
use Rattle.std.{specs.Prelude.{◌≡◌, ℕ, ◌+◌, ◌≤◌, nat_le, ◌||◌, is_none, List, length, filter, Result, Ok}}
use Rattle.pim_ip.{specs.{declared.refusal.Refusal.{Refusal, TheVariants.{Short, NotMulticast}}, Ipv4.{is_multicast, is_unicast}, Tests.{expect, ◌>>◌}}}
use Rattle.igmp_wire.{specs.{declared.report.RecordType.RecordType, Values.{Query, Record}, Queries.{addresses_at, query_test, query_of}, Reports.{record_type_at, record_group_at, source_count_at, after_record, report_test, report_of}}}

-- the reading of a query whose type and checksum were tested
unfoldable pub query_reading : List ℕ → Result Query Refusal
query_reading b = query_test b >> Ok (query_of b)

-- the reading of a report whose type and checksum were tested
unfoldable pub report_reading : List ℕ → Result (List Record) Refusal
report_reading b = report_test b >> Ok (report_of b)

-- the tests of the record at place p, and the place after it
unfoldable pub record_reading : List ℕ → ℕ → Result ℕ Refusal
record_reading b p =
    expect (nat_le (p + 8) (length b)) Short
    >> expect (is_none (record_type_at b p) || is_multicast (record_group_at b p)) NotMulticast
    >> expect (nat_le (after_record b p) (length b)) Short
    >> Ok (after_record b p)

-- the sources of the record at place p, but for those that no host can be
abbrev pub record_sources_at : List ℕ → ℕ → List ℕ
record_sources_at b p = filter is_unicast (addresses_at b (p + 8) (source_count_at b p))

-- the record at place p, whose type is known
abbrev pub record_from : List ℕ → ℕ → RecordType → Record
record_from b p type =
    record { type = type; group = record_group_at b p; sources = record_sources_at b p }

-- the bytes of a report whose records pass their tests
pub record IsReport (b : List ℕ) : Type 0 where
  pub header : 8 ≤ length b
  pub records : report_test b ≡ Ok tt
