-- The values of what is written, and when they are read again as they were written.
use Rattle.std.{specs.Prelude.{◌≡◌, ℕ, ◌+◌, ◌^◌, ◌<◌, ◌||◌, ◌==◌, not, if◌then◌else◌, IsTrue, List, ◌∷◌, ◌++◌, length, map, flat_map, take, drop, All, Ok}}
use Rattle.byteorder.{specs.Endian.big_bytes}
use Rattle.pim_ip.{specs.{Checksum.with_checksum, declared.addr.Addr.Addr, Ipv4.{is_multicast, is_link_local, is_unicast}}}
use Rattle.igmp_wire.{specs.{declared.{view.IgmpView.TheVariants.{Query as query_view, Report as report_view}, write.{QueryHeader.QueryHeader, GroupRecord.GroupRecord}}, Values.{Query, Record}, Queries.query_text, Reports.{record_text, report_text}, Messages.igmp_reading}}

abbrev pub bits_of : List Addr → List ℕ
bits_of addresses = map (λ address. address.bits) addresses

-- the query with a header's values and these sources
abbrev pub query_with : QueryHeader → List Addr → Query
query_with header sources = record {
  max_response_code = header.max_response_code;
  group = header.group.bits;
  suppress = header.suppress;
  robustness = header.robustness;
  interval_code = header.interval_code;
  sources = bits_of sources;
}

abbrev pub record_to_write : GroupRecord → Record
record_to_write r = record { type = r.record_type; group = r.group.bits; sources = bits_of r.sources.now }

abbrev pub records_of : List GroupRecord → List Record
records_of records = map record_to_write records

-- the number of sources fits its 16 bits
abbrev pub HasSourceCount : GroupRecord → Type 0
HasSourceCount r = length r.sources.now < 2 ^ 16

-- a query or a report with 0 for its checksum
abbrev pub unsummed_query : Query → List ℕ
unsummed_query q =
    0x11 ∷ q.max_response_code ∷ 0 ∷ 0 ∷ big_bytes 4 q.group
    ++ ((if q.suppress then 8 else 0) + q.robustness) ∷ q.interval_code ∷ big_bytes 2 (length q.sources)
    ++ flat_map (big_bytes 4) q.sources

abbrev pub unsummed_report : List Record → List ℕ
unsummed_report records =
    0x22 ∷ 0 ∷ 0 ∷ 0 ∷ 0 ∷ 0 ∷ big_bytes 2 (length records) ++ flat_map record_text records

-- A message with its checksum in its third and fourth byte.
abbrev pub summed : List ℕ → List ℕ
summed bytes = with_checksum (take 2 bytes) (drop 4 bytes)

-- The bytes begin with the old ones.
abbrev pub BeginsWith : List ℕ → List ℕ → Type 0
BeginsWith bytes old = take (length old) bytes ≡ old

-- a query for all groups or for one
abbrev pub QueryReadsBack : Query → Type 0
QueryReadsBack q =
    IsTrue ((q.group == 0) || is_multicast q.group) → igmp_reading (query_text q) ≡ Ok (query_view q)

-- A record of which nothing is refused or skipped.
pub record IsKept (r : Record) : Type 0 where
  pub group : IsTrue (is_multicast r.group)
  pub routable : IsTrue (not (is_link_local r.group))
  pub sources : All (λ source. IsTrue (is_unicast source)) r.sources

abbrev pub ReportReadsBack : List Record → Type 0
ReportReadsBack records =
    All IsKept records → igmp_reading (report_text records) ≡ Ok (report_view records)
