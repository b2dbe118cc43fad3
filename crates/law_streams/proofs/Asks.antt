-- How many queries a record of a report has the router send.
use Rattle.std.{proofs.{Common.{◌≡◌, ℕ, zero, suc, ◌+◌, ◌-◌, ◌*◌, ◌/◌, ◌≤◌, ◌==◌, nat_lt, not, Bool, true, false, cond, List, [], ◌∷◌, drop, filter, fold, length, take, Option, refl, arith, length-append}, lemmas.List.{length-drop, length-map, length-take}}, specs.{BTreeMap.insert_entry, List.AllByRecursion, Ordering.match_ordering, declared.cmp.Ordering.Ordering}}
use Rattle.pim_types.{specs.{Keys.{key_cmp, source_key}, declared.fact.{Key.Key, SendingRow.SendingRow}}}
use Rattle.igmp_wire.{specs.{Values.Record, declared.report.RecordType.RecordType}}
use Rattle.pim_model.{specs.{Messages.Message, Querier.{each_in_turn, exceeds, group_membership_interval, is_sending, lower_sources, most_sources, queries_of, query_asked, query_end, query_group, query_sent, query_sources, record_seen, robustness, send_sources, source_end, sources_sent, sources_to_send, specific_query}, Records.{AskGroup, AskSources, Asked, GroupRecord, Member, apply_record, from_exclude, from_include, record_of, sources_of_both, with_members, with_record, with_repeats_of_rows}, Sets.Set, State.State, Tables.{Table, ascending, drop_where, insert_number, is_empty_list, put}}}
use Rattle.law_settled.{proofs.ListLaws.{by_cond, each_append, filter_shorter}}
use Rattle.law_streams.{specs.Answers.{AsksFew, IsShortQuery, RecordAsksFew, askable}, proofs.{Cancels.left, Links.to_all}}

abbrev Short : List Message → Type 0
Short ms = AllByRecursion IsShortQuery ms

-- ---- lists

inserted_long : (n : ℕ) (ms : List ℕ) → length (insert_number n ms) ≤ length ms + 1
unfolding insert_number
inserted_long n [] = omega arith
inserted_long n (m ∷ ms) =
    let le : length (insert_number n ms) ≤ length ms + 1 = inserted_long n ms in
    by_cond (λ (xs : List ℕ). length xs ≤ suc (length ms) + 1) (nat_lt n m) (n ∷ m ∷ ms) (cond (n == m) (m ∷ ms) (m ∷ insert_number n ms))
    (omega arith)
    (by_cond (λ (xs : List ℕ). length xs ≤ suc (length ms) + 1) (n == m) (m ∷ ms) (m ∷ insert_number n ms) (omega arith) (omega (arith, le)))

folded_long : (ns found : List ℕ) → length (fold (λ sorted n. insert_number n sorted) found ns) ≤ length found + length ns
folded_long [] found = omega arith
folded_long (n ∷ ns) found =
    let a : length (insert_number n found) ≤ length found + 1 = inserted_long n found in
    let b : length (fold (λ sorted m. insert_number m sorted) (insert_number n found) ns) ≤ length (insert_number n found) + length ns =
    folded_long ns (insert_number n found) in
    omega (arith, a, b)

ascending_long : (ns : List ℕ) → length (ascending ns) ≤ length ns
unfolding ascending
ascending_long ns = let le = folded_long ns [] in omega (arith, le)

-- of the entries that pass, a row that is put is one more at most
module _ {R : Type 0} (p : Key × R → Bool) (k : Key) (r : R) where
  kept_or_not : (x : Key × R) (xs : Table R) → length (filter p xs) ≤ length (filter p (x ∷ xs))
  kept_or_not x xs = by_cond (λ (ys : Table R). length (filter p xs) ≤ length ys) (p x) (x ∷ filter p xs) (filter p xs) (omega arith) (omega arith)

  one_at_most : (x : Key × R) (xs : Table R) → length (filter p (x ∷ xs)) ≤ length (filter p xs) + 1
  one_at_most x xs = grind (arith, by_cond)

  again : (x : Key × R) (xs ys : Table R) → length (filter p ys) ≤ length (filter p xs) + 1
      → length (filter p (x ∷ ys)) ≤ length (filter p (x ∷ xs)) + 1
  again x xs ys le = grind arith

  put_step : (x : Key × R) (xs : Table R) (o : Ordering)
      → length (filter p (insert_entry key_cmp xs k r)) ≤ length (filter p xs) + 1
      → length (filter p (match_ordering o ((k, r) ∷ x ∷ xs) ((x.0, r) ∷ xs) (x ∷ insert_entry key_cmp xs k r))) ≤ length (filter p (x ∷ xs)) + 1
  put_step x xs o le = grind (arith, one_at_most, kept_or_not, again)

  put_long : (t : Table R) → length (filter p (put t k r)) ≤ length (filter p t) + 1
  unfolding put
  put_long [] = one_at_most (k, r) []
  put_long (x ∷ xs) = put_step x xs (key_cmp k x.0) (put_long xs)

all_put_long : {R : Type 0} (p : Key × R → Bool) (i g : ℕ) (r : R) (sources : List ℕ) (t : Table R)
    → length (filter p (fold (λ u src. put u (source_key i g src) r) t sources)) ≤ length (filter p t) + length sources
all_put_long p i g r [] t = omega arith
all_put_long p i g r (src ∷ srcs) t =
    let a : length (filter p (put t (source_key i g src) r)) ≤ length (filter p t) + 1 = put_long p (source_key i g src) r t in
    let b = all_put_long p i g r srcs (put t (source_key i g src) r) in
    omega (arith, a, b)

-- ---- the queries of some sources

-- one query more for the first 366
one_more : (q d n : ℕ) → 366 * q ≤ d + 365 → d ≡ suc n - 366 → 366 * suc q ≤ suc n + 365
one_more q d n f e = omega (arith, f, e)

module _ (s : State) (i g : ℕ) (suppress : Bool) where
  abbrev message : List ℕ → Message
  message sources = specific_query s i g suppress sources

  short_one : (sources : List ℕ) → length sources ≤ most_sources → IsShortQuery (message sources)
  unfolding query_sent
  short_one sources le = le

  taken_short : (sources : List ℕ) → length (take most_sources sources) ≤ most_sources
  taken_short sources = let e = length-take most_sources sources in omega (arith, e)

  queries_short : (most : ℕ) (sources : List ℕ) → Short (queries_of message most sources)
  unfolding queries_of
  queries_short zero sources = tt
  queries_short (suc most) sources = go (is_empty_list sources) (queries_short most (drop most_sources sources))
    where
      go : (b : Bool) → Short (queries_of message most (drop most_sources sources))
          → Short (let ms : List Message = elim b [
            | true ↦ []
            | false ↦ message (take most_sources sources) ∷ queries_of message most (drop most_sources sources)
          ] in ms)
      go true f = tt
      go false f = (short_one (take most_sources sources) (taken_short sources), f)

  queries_few : (most : ℕ) (sources : List ℕ) → 366 * length (queries_of message most sources) ≤ length sources + 365
  unfolding queries_of
  queries_few zero sources = omega arith
  queries_few (suc most) sources = go sources (queries_few most (drop most_sources sources))
    where
      go : (xs : List ℕ)
          → 366 * length (queries_of message most (drop most_sources xs)) ≤ length (drop most_sources xs) + 365
          → 366 * length (let ms : List Message = elim (is_empty_list xs) [
            | true ↦ []
            | false ↦ message (take most_sources xs) ∷ queries_of message most (drop most_sources xs)
          ] in ms) ≤ length xs + 365
      go [] f = omega arith
      go (x ∷ xs) f =
          let d : length (drop most_sources (x ∷ xs)) ≡ length (x ∷ xs) - most_sources = length-drop most_sources (x ∷ xs) in
          one_more (length (queries_of message most (drop most_sources (x ∷ xs)))) (length (drop most_sources (x ∷ xs))) (length xs) f d

-- ---- what a record asks

parted : (p : ℕ → Bool) (xs : List ℕ) → length (filter p xs) + length (filter (λ x. not (p x)) xs) ≡ length xs
parted p [] = refl
parted p (x ∷ xs) = go (p x) (parted p xs)
  where
    go : (b : Bool) → length (filter p xs) + length (filter (λ y. not (p y)) xs) ≡ length xs
        → length (cond b (x ∷ filter p xs) (filter p xs)) + length (cond (not b) (x ∷ filter (λ y. not (p y)) xs) (filter (λ y. not (p y)) xs))
        ≡ suc (length xs)
    go true e = omega (arith, e)
    go false e = omega (arith, e)

-- the messages are few for n sources, in queries of the two kinds
record Asks (n : ℕ) (ms : List Message) : Type 0 where
  short : Short ms
  few : 366 * length ms ≤ n + 730

none_asked : (n : ℕ) → Asks n []
none_asked n = record { short = tt; few = omega arith }

sent_asks : (s : State) (i g : ℕ) → Asks (length (sources_to_send s i g)) (sources_sent s i g).1
unfolding sources_sent
sent_asks s i g =
    let xs : List ℕ = sources_to_send s i g in
    let runs : ℕ → Bool = λ src. exceeds (query_end s i) (source_end s i g src) in
    let a : 366 * length (queries_of (specific_query s i g true) (length (filter runs xs)) (filter runs xs)) ≤ length (filter runs xs) + 365 =
    queries_few s i g true (length (filter runs xs)) (filter runs xs) in
    let others : List ℕ = filter (λ src. not (runs src)) xs in
    let b : 366 * length (queries_of (specific_query s i g false) (length others) others) ≤ length others + 365 =
    queries_few s i g false (length others) others in
    let c : length (filter runs xs) + length others ≡ length xs = parted runs xs in
    let d = length-append (queries_of (specific_query s i g true) (length (filter runs xs)) (filter runs xs))
    (queries_of (specific_query s i g false) (length others) others) in
    record {
      short = each_append IsShortQuery (queries_of (specific_query s i g true) (length (filter runs xs)) (filter runs xs)) _
          (queries_short s i g true (length (filter runs xs)) (filter runs xs)) (queries_short s i g false (length others) others);
      few = omega (arith, a, b, c, d);
    }

module _ (s : State) (i g : ℕ) where
  abbrev sendings : State → ℕ
  sendings t = length (filter (is_sending i g) t.sendings)

  to_send : (t : State) → length (sources_to_send t i g) ≡ sendings t
  unfolding sources_to_send
  to_send t = length-map (filter (is_sending i g) t.sendings) _

  more_asks : (m n : ℕ) (ms : List Message) → m ≤ n → Asks m ms → Asks n ms
  more_asks m n ms le f = let few = f.few in record { short = f.short; few = omega (arith, few, le) }

  sources_ask : (asked : List ℕ) → Asks (sendings s + length asked) (query_sources s i g asked).1
  unfolding query_sources send_sources lower_sources
  sources_ask asked = go (is_empty_list sources)
    where
      sources : List ℕ
      sources = filter (λ src. exceeds (query_end s i) (source_end s i g src)) asked

      count : SendingRow
      count = record { left = robustness s i }

      lower : State
      lower = record (lower_sources s i g sources (query_end s i)) {
        sendings = fold (λ t src. put t (source_key i g src) count) s.sendings sources;
      }

      long : length (sources_to_send lower i g) ≤ sendings s + length asked
      long =
          let a : length (sources_to_send lower i g) ≡ sendings lower = to_send lower in
          let b : sendings lower ≤ sendings s + length sources = all_put_long (is_sending i g) i g count sources s.sendings in
          let c : length sources ≤ length asked = filter_shorter (λ src. exceeds (query_end s i) (source_end s i g src)) asked in
          omega (arith, a, b, c)

      go : (b : Bool) → Asks (sendings s + length asked)
          (let p : State × List Message = elim b [ true ↦ (s, []) | false ↦ send_sources lower i g ] in p.1)
      go true = none_asked (sendings s + length asked)
      go false = more_asks _ _ _ long (sent_asks lower i g)

-- ---- a record

-- what is asked of sources, and after them of the group
data FewAsked (n : ℕ) : List Asked → Type 0 where
  NothingAsked : FewAsked n []
  OfSources : (xs : List ℕ) → length xs ≤ n → FewAsked n (AskSources xs ∷ [])
  AndOfGroup : (xs : List ℕ) → length xs ≤ n → FewAsked n (AskSources xs ∷ AskGroup ∷ [])

include_few : (full : ℕ) (r : GroupRecord) (type : RecordType) (named : Set) (all : List ℕ)
    → FewAsked (length all) (from_include full r type named all).1
unfolding from_include
include_few full r RecordType.IsInclude named all = NothingAsked
include_few full r RecordType.Allow named all = NothingAsked
include_few full r RecordType.IsExclude named all = NothingAsked
include_few full r RecordType.Block named all = OfSources _ (filter_shorter _ all)
include_few full r RecordType.ToExclude named all = OfSources _ (filter_shorter _ all)
include_few full r RecordType.ToInclude named all = OfSources _ (filter_shorter _ all)

exclude_few : (full end : ℕ) (r : GroupRecord) (type : RecordType) (named : Set) (all : List ℕ)
    → FewAsked (length all) (from_exclude full end r type named all).1
unfolding from_exclude
exclude_few full end r RecordType.IsInclude named all = NothingAsked
exclude_few full end r RecordType.Allow named all = NothingAsked
exclude_few full end r RecordType.IsExclude named all = NothingAsked
exclude_few full end r RecordType.Block named all = OfSources _ (filter_shorter _ all)
exclude_few full end r RecordType.ToExclude named all = OfSources _ (filter_shorter _ all)
exclude_few full end r RecordType.ToInclude named all = AndOfGroup _ (filter_shorter _ all)

applied_few : (full : ℕ) (timer : Option ℕ) (members : List Member) (type : RecordType) (sources : List ℕ)
    → FewAsked (length (sources_of_both (record { timer = timer; members = members }) sources))
    (apply_record full (record { timer = timer; members = members }) type sources).1
unfolding apply_record
applied_few full timer members type sources = grind (arith, include_few, exclude_few)

both_long : (r : GroupRecord) (sources : List ℕ) → length (sources_of_both r sources) ≤ length r.members + length sources
both_long r sources = grind (arith, ascending_long, length-append, length-map)

-- a query of the group more
record AsksAll (n : ℕ) (ms : List Message) : Type 0 where
  short : Short ms
  few : 366 * length ms ≤ n + 1096

module _ (i g : ℕ) where
  turns_ask : (n : ℕ) (asked : List Asked) → FewAsked n asked → (t : State)
      → AsksAll (sendings t i g t + n) (each_in_turn (query_asked i g) t asked).1
  unfolding each_in_turn query_asked query_group query_sent
  turns_ask n asked never t = grind (arith, sources_ask, length-append, each_append)

  -- the sendings that a record leaves
  fewer_sendings : (s : State) (r : GroupRecord) → sendings s i g (with_record s i g r) ≤ sendings s i g s
  unfolding with_record with_members with_repeats_of_rows drop_where
  fewer_sendings s r = left (is_sending i g) _ s.sendings

asked_at_most : (l a : ℕ) → 366 * l ≤ a + 1096 → l ≤ a / 366 + 3
asked_at_most l a le = omega (arith, le)

module _ (i : ℕ) (s : State) (r : Record) where
  abbrev applied : GroupRecord × List Asked
  applied = apply_record (s.present + group_membership_interval s i) (record_of s i r.group) r.type r.sources

  abbrev written : State
  written = with_record s i r.group applied.0

  abbrev asked : List Message
  asked = (each_in_turn (query_asked i r.group) written applied.1).1

  asks_all : AsksFew i s r asked
  unfolding askable
  asks_all =
      let f : AsksAll (sendings written i r.group written + length (sources_of_both (record_of s i r.group) r.sources)) asked =
      turns_ask i r.group (length (sources_of_both (record_of s i r.group) r.sources)) applied.1
      (applied_few (s.present + group_membership_interval s i) (record_of s i r.group).timer (record_of s i r.group).members r.type r.sources)
      written in
      let few = f.few in
      let a : sendings written i r.group written ≤ sendings s i r.group s = fewer_sendings i r.group s applied.0 in
      let b : length (sources_of_both (record_of s i r.group) r.sources) ≤ length (record_of s i r.group).members + length r.sources =
      both_long (record_of s i r.group) r.sources in
      let c : length (sources_to_send s i r.group) ≡ sendings s i r.group s = to_send s i r.group s in
      record {
        short = to_all IsShortQuery asked f.short;
        few = asked_at_most (length asked) _ (omega (arith, few, a, b, c));
      }

  none_few : AsksFew i s r []
  none_few = record { short = to_all IsShortQuery [] tt; few = omega arith }

pub record_asks_few : RecordAsksFew
unfolding record_seen
record_asks_few i s r = grind (arith, by_cond, asks_all, none_few)
