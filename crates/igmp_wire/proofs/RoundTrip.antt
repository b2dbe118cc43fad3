-- What is written is read as it was written.
use Rattle.std.{proofs.{Common.{◌≡◌, ℕ, zero, suc, ◌+◌, ◌*◌, ◌/◌, ◌%◌, ◌^◌, ◌<◌, ◌≤◌, Bool, true, false, ◌||◌, ◌==◌, not, nat_le, is_none, if◌then◌else◌, IsTrue, List, [], ◌∷◌, ◌++◌, length, get_or, filter, flat_map, All, Some, Ok, refl, sym, ap, ◌∙◌, arith}, lemmas.{Bool.Decides.nat_tests, List.{append_assoc, append-nil, length-append, length-map, get_or-append-add}}, Math.Bool.or-true}}
use Rattle.byteorder.{specs.{Endian.{big_from, big_bytes}, Numbers.big_number-reads_back}}
use Rattle.pim_ip.{specs.{Ipv4.{is_multicast, is_link_local, is_unicast}, Checksum.{sum16, with_checksum}}, proofs.ChecksumLemmas.sum16-with_checksum}
use Rattle.igmp_wire.{specs.{declared.{view.IgmpView.TheVariants.{Query as query_view, Report as report_view}, report.RecordType.{RecordType, TheVariants.{IsInclude, IsExclude, ToInclude, ToExclude, Allow, Block}}, write.GroupRecord.GroupRecord}, Values.{Query, Record}, Queries.{addresses_at, group_of, source_count_of, query_test, query_of, query_text}, Reports.{type_of_code, code_of_type, record_type_at, auxiliary_length_at, record_group_at, source_count_at, after_record, record_at, records_at, records_test, record_text, record_count_of, report_test, report_of, report_text}, Messages.{type_of, report_type, query_type, igmp_reading}, Written.{records_of, HasSourceCount, IsKept, QueryReadsBack, ReportReadsBack}}}

-- a number behind what stands in front
big_from-front : (front rest : List ℕ) (p i n : ℕ) → p ≡ length front + i → big_from p n (front ++ rest) ≡ big_from i n rest
big_from-front front rest p i zero e = refl
big_from-front front rest p i (suc n) e =
    let byte : get_or (front ++ rest) p 0 ≡ get_or rest i 0 = rw e (get_or-append-add front rest i 0) in
    let later = big_from-front front rest (suc p) (suc i) n (omega arith) in
    rw (byte, later) refl

-- addresses that were written
addresses_at-written : (xs front rest : List ℕ) (p : ℕ) → p ≡ length front → All (λ x. x < 2 ^ 32) xs
    → addresses_at (front ++ (flat_map (big_bytes 4) xs ++ rest)) p (length xs) ≡ xs
unfolding addresses_at
addresses_at-written [] front rest p e fits = refl
addresses_at-written (x ∷ xs) front rest p e fits =
    let bytes : List ℕ = big_bytes 4 x in
    let others : List ℕ = flat_map (big_bytes 4) xs ++ rest in
    let first : big_from p 4 (front ++ (bytes ++ others)) ≡ x =
    big_from-front front (bytes ++ others) p 0 4 (omega arith) ∙ big_number-reads_back 4 x others (fits 0 0 (omega arith)) in
    let moved : front ++ (bytes ++ others) ≡ (front ++ bytes) ++ others = sym (append_assoc front bytes others) in
    let later = addresses_at-written xs (front ++ bytes) rest (p + 4) (omega (arith, length-append front bytes)) (λ k d l. fits (suc k) d (omega arith)) in
    rw first (ap (λ (ys : List ℕ). x ∷ ys) (ap (λ (b : List ℕ). addresses_at b (p + 4) (length xs)) moved ∙ later))

-- each type has its code
type_of_code-code_of_type : (t : RecordType) → type_of_code (code_of_type t) ≡ Some t
unfolding type_of_code
type_of_code-code_of_type IsInclude = refl
type_of_code-code_of_type IsExclude = refl
type_of_code-code_of_type ToInclude = refl
type_of_code-code_of_type ToExclude = refl
type_of_code-code_of_type Allow = refl
type_of_code-code_of_type Block = refl

not_true : (b : Bool) → IsTrue (not b) → b ≡ false
not_true true h = absurd (cc)
not_true false h = refl

-- nothing is left out where all pass
filter-all : (f : ℕ → Bool) (xs : List ℕ) → All (λ x. IsTrue (f x)) xs → filter f xs ≡ xs
filter-all f [] h = refl
filter-all f (x ∷ xs) h =
    let first : f x ≡ true = h 0 0 (omega arith) in
    let later = filter-all f xs (λ k d l. h (suc k) d (omega arith)) in
    rw (first, later) refl

-- an address that passes a test is in range
unicast_fits : (a : ℕ) → IsTrue (is_unicast a) → a < 2 ^ 32
unicast_fits a h = grind (arith, nat_tests)

multicast_fits : (a : ℕ) → IsTrue (is_multicast a) → a < 2 ^ 32
multicast_fits a h = grind (arith, nat_tests)

-- four bytes an address
length-addresses : (xs : List ℕ) → length (flat_map (big_bytes 4) xs) ≡ 4 * length xs
length-addresses [] = refl
length-addresses (x ∷ xs) = let later = length-addresses xs in omega (arith, length-append (big_bytes 4 x) (flat_map (big_bytes 4) xs))

length-record_text : (r : Record) → length (record_text r) ≡ 8 + 4 * length r.sources
length-record_text r =
    let fixed : List ℕ = code_of_type r.type ∷ 0 ∷ big_bytes 2 (length r.sources) ++ big_bytes 4 r.group in
    let sources = length-addresses r.sources in
    omega (arith, length-append fixed (flat_map (big_bytes 4) r.sources))

-- what stands at the place of a record
record StandsAt (b : List ℕ) (p : ℕ) (r : Record) : Type 0 where
  type : record_type_at b p ≡ Some r.type
  auxiliary : auxiliary_length_at b p ≡ 0
  count : source_count_at b p ≡ length r.sources
  group : record_group_at b p ≡ r.group
  sources : addresses_at b (p + 8) (length r.sources) ≡ r.sources

stands_at-written : (r : Record) (front rest : List ℕ) (p : ℕ) → p ≡ length front → IsKept r → length r.sources < 2 ^ 16
    → StandsAt (front ++ (record_text r ++ rest)) p r
stands_at-written r front rest p e kept count =
    let n : ℕ = length r.sources in
    let fixed : List ℕ = code_of_type r.type ∷ 0 ∷ big_bytes 2 n ++ big_bytes 4 r.group in
    let others : List ℕ = flat_map (big_bytes 4) r.sources ++ rest in
    let e0 : p ≡ length front + 0 = omega arith in
    let e1 : p + 1 ≡ length front + 1 = omega arith in
    let code : get_or (front ++ (fixed ++ others)) p 0 ≡ code_of_type r.type = rw e0 (get_or-append-add front (fixed ++ others) 0 0) in
    let moved : front ++ (fixed ++ others) ≡ (front ++ fixed) ++ others = sym (append_assoc front fixed others) in
    let fits : All (λ x. x < 2 ^ 32) r.sources = λ k d l. unicast_fits (get_or r.sources k d) (kept.sources k d l) in
    record {
      type = ap type_of_code code ∙ type_of_code-code_of_type r.type;
      auxiliary = rw e1 (get_or-append-add front (fixed ++ others) 1 0);
      count = big_from-front front (fixed ++ others) (p + 2) 2 2 (omega arith) ∙ big_number-reads_back 2 n (big_bytes 4 r.group ++ others) count;
      group = big_from-front front (fixed ++ others) (p + 4) 4 4 (omega arith) ∙ big_number-reads_back 4 r.group others (multicast_fits r.group kept.group);
      sources = ap (λ (b : List ℕ). addresses_at b (p + 8) n) moved ∙ addresses_at-written r.sources (front ++ fixed) rest (p + 8) (omega (arith, length-append front fixed)) fits;
    }

-- a record that is not skipped
record_at-kept : (b : List ℕ) (p : ℕ) (r : Record) → StandsAt b p r → IsKept r → record_at b p ≡ r ∷ []
unfolding record_at
record_at-kept b p r s kept =
    let routable : is_link_local r.group ≡ false = not_true (is_link_local r.group) kept.routable in
    let all = filter-all is_unicast r.sources kept.sources in
    rw (s.count, s.group, routable, s.sources, all, s.type) refl

-- the records that were written, and their tests
record IsRead (b : List ℕ) (p : ℕ) (rs : List Record) : Type 0 where
  values : records_at b p (length rs) ≡ rs
  tests : records_test b p (length rs) ≡ Ok tt

records_read-more : (b : List ℕ) (p end : ℕ) (r : Record) (rs : List Record) → record_at b p ≡ r ∷ [] → after_record b p ≡ end
    → is_multicast (record_group_at b p) ≡ true → p + 8 ≤ length b → end ≤ length b → IsRead b end rs → IsRead b p (r ∷ rs)
unfolding records_at records_test
records_read-more b p end r rs value after multicast fixed whole others =
    let first : nat_le (p + 8) (length b) ≡ true = grind (arith, nat_tests) in
    let second : (is_none (record_type_at b p) || is_multicast (record_group_at b p)) ≡ true = rw multicast (or-true (is_none (record_type_at b p))) in
    let inside : after_record b p ≤ length b = rw after whole in
    let third : nat_le (after_record b p) (length b) ≡ true = grind (arith, nat_tests) in
    record {
      values = rw (value, after) (ap (λ (ys : List Record). r ∷ ys) others.values);
      tests = rw (first, second, third, after) others.tests;
    }

records_read : (rs : List Record) (front : List ℕ) (p : ℕ) → p ≡ length front → All IsKept rs → All (λ r. length r.sources < 2 ^ 16) rs
    → IsRead (front ++ flat_map record_text rs) p rs
records_read [] front p e kept counts = record { values = unfold records_at in refl; tests = unfold records_test in refl }
records_read (r ∷ rs) front p e kept counts =
    let others : List ℕ = flat_map record_text rs in
    let b : List ℕ = front ++ (record_text r ++ others) in
    let end : ℕ = length (front ++ record_text r) in
    let first : IsKept r = kept 0 r (omega arith) in
    let stands = stands_at-written r front others p e first (counts 0 r (omega arith)) in
    let size = length-record_text r in
    let front_size = length-append front (record_text r) in
    let after : after_record b p ≡ end = rw (stands.count, stands.auxiliary) (omega arith) in
    let moved : b ≡ (front ++ record_text r) ++ others = sym (append_assoc front (record_text r) others) in
    let long : length b ≡ end + length others = rw moved (length-append (front ++ record_text r) others) in
    let multicast : is_multicast (record_group_at b p) ≡ true = rw stands.group first.group in
    let later : IsRead b end rs = rw moved (records_read rs (front ++ record_text r) end refl (λ k d l. kept (suc k) d (omega arith)) (λ k d l. counts (suc k) d (omega arith))) in
    records_read-more b p end r rs (record_at-kept b p r stands first) after multicast (omega arith) (omega arith) later

-- a message of records that pass their tests
message_is_report : (b : List ℕ) (rs : List Record) → 8 ≤ length b → sum16 b ≡ 0 → type_of b ≡ report_type → record_count_of b ≡ length rs
    → IsRead b 8 rs → igmp_reading b ≡ Ok (report_view rs)
unfolding igmp_reading report_test report_of
message_is_report b rs long sum type count read =
    let tests : records_test b 8 (record_count_of b) ≡ Ok tt = rw count read.tests in
    let values : records_at b 8 (record_count_of b) ≡ rs = rw count read.values in
    grind (arith, nat_tests)

pub report_reads : (rs : List Record) → length rs < 2 ^ 16 → All (λ r. length r.sources < 2 ^ 16) rs → ReportReadsBack rs
unfolding report_text with_checksum
report_reads rs count counts kept =
    let texts : List ℕ = flat_map record_text rs in
    let sum : ℕ = sum16 (0x22 ∷ 0 ∷ 0 ∷ 0 ∷ 0 ∷ 0 ∷ big_bytes 2 (length rs) ++ texts) in
    let front : List ℕ = 0x22 ∷ 0 ∷ sum / 256 % 256 ∷ sum % 256 ∷ 0 ∷ 0 ∷ big_bytes 2 (length rs) in
    message_is_report (front ++ texts) rs (omega (arith, length-append front texts))
    (sum16-with_checksum 1 (0x22 ∷ 0 ∷ []) (0 ∷ 0 ∷ big_bytes 2 (length rs) ++ texts) refl)
    refl (big_number-reads_back 2 (length rs) texts count) (records_read rs front 8 refl kept counts)

-- a query of right lengths
message_is_query : (b : List ℕ) (q : Query) → 12 ≤ length b → sum16 b ≡ 0 → type_of b ≡ query_type → IsTrue ((group_of b == 0) || is_multicast (group_of b))
    → 12 + 4 * source_count_of b ≤ length b → query_of b ≡ q → igmp_reading b ≡ Ok (query_view q)
unfolding igmp_reading query_test
message_is_query b q long sum type group whole value =
    let lawful : ((group_of b == 0) || is_multicast (group_of b)) ≡ true = group in
    grind (arith, nat_tests)

-- the byte of S and the robustness variable
flags-read : (suppress : Bool) (robustness : ℕ) → robustness < 8
    → (((if suppress then 8 else 0) + robustness) / 8 % 2 == 1) ≡ suppress × (((if suppress then 8 else 0) + robustness) % 8 ≡ robustness)
flags-read true robustness h = (grind (arith, nat_tests), omega arith)
flags-read false robustness h = (grind (arith, nat_tests), omega arith)

group_fits : (group : ℕ) → IsTrue ((group == 0) || is_multicast group) → group < 2 ^ 32
group_fits group h = grind (arith, nat_tests)

-- a query by its fields
query_is : (q : Query) (group robustness : ℕ) (suppress : Bool) (sources : List ℕ) → group ≡ q.group → suppress ≡ q.suppress → robustness ≡ q.robustness
    → sources ≡ q.sources
    → record { max_response_code = q.max_response_code; group = group; suppress = suppress; robustness = robustness; interval_code = q.interval_code; sources = sources } ≡ q
query_is q group robustness suppress sources eg es er ex = rw (eg, es, er, ex) refl

pub query_reads : (q : Query) → q.robustness < 8 → length q.sources < 2 ^ 16 → All (λ source. source < 2 ^ 32) q.sources → QueryReadsBack q
unfolding query_text with_checksum query_of
query_reads q robustness count fits group =
    let texts : List ℕ = flat_map (big_bytes 4) q.sources in
    let flags : ℕ = (if q.suppress then 8 else 0) + q.robustness in
    let fields : List ℕ = big_bytes 4 q.group ++ flags ∷ q.interval_code ∷ big_bytes 2 (length q.sources) in
    let sum : ℕ = sum16 (0x11 ∷ q.max_response_code ∷ 0 ∷ 0 ∷ fields ++ texts) in
    let front : List ℕ = 0x11 ∷ q.max_response_code ∷ sum / 256 % 256 ∷ sum % 256 ∷ fields in
    let b : List ℕ = front ++ texts in
    let group_is : group_of b ≡ q.group = big_number-reads_back 4 q.group (flags ∷ q.interval_code ∷ big_bytes 2 (length q.sources) ++ texts) (group_fits q.group group) in
    let count_is : source_count_of b ≡ length q.sources = big_number-reads_back 2 (length q.sources) texts count in
    let flags_are = flags-read q.suppress q.robustness robustness in
    let sources : addresses_at b 12 (length q.sources) ≡ q.sources = ap (λ (end : List ℕ). addresses_at (front ++ end) 12 (length q.sources)) (sym (append-nil texts)) ∙ addresses_at-written q.sources front [] 12 refl fits in
    let long : length b ≡ 12 + 4 * length q.sources = omega (arith, length-append front texts, length-addresses q.sources) in
    let value : query_of b ≡ q = query_is q (group_of b) (flags % 8) (flags / 8 % 2 == 1) (addresses_at b 12 (source_count_of b)) group_is flags_are.0 flags_are.1 (ap (addresses_at b 12) count_is ∙ sources) in
    message_is_query b q (omega arith) (sum16-with_checksum 1 (0x11 ∷ q.max_response_code ∷ []) (fields ++ texts) refl) refl
    (rw group_is group) (omega (arith, count_is)) value

-- the numbers of sources fit
pub source_counts : (records : List GroupRecord) → All HasSourceCount records → (k : ℕ) (d : Record) → k < length (records_of records)
    → length (get_or (records_of records) k d).sources < 2 ^ 16
source_counts [] h k d l = absurd (omega arith)
source_counts (r ∷ rs) h zero d l = rw (length-map r.sources.now (λ address. address.bits)) (h 0 r (omega arith))
source_counts (r ∷ rs) h (suc k) d l = source_counts rs (λ j e m. h (suc j) e (omega arith)) k d (omega arith)
