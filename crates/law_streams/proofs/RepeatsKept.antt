-- Every event, and time, keeps what is still to send under the records of what it asks about.
use Rattle.std.{proofs.{Common.{◌≡◌, ◌∙◌, ℕ, ◌+◌, not, ◌&&◌, Bool, true, false, List, [], ◌∷◌, filter, Option, Some, None, is_some, is_none, ap, arith, eqb-true}, lemmas.Bool.or_left}, specs.{Cmp.Derive.both_true, List.AllByRecursion}}
use Rattle.pim_types.{specs.{Keys.{group_in, iface_in, is_on, star_key}, declared.fact.Key.Key}, proofs.Keys.same_key_same}
use Rattle.igmp_wire.{specs.{Values.{Query as QueryValue, Record}, declared.report.RecordType.RecordType}}
use Rattle.pim_model.{specs.{Messages.Message, Querier.{each_in_turn, group_membership_interval, group_record_due, is_querier, is_skipped, lower_queried, lower_sources, querier_elected, query_asked, query_group, query_seen, query_sources, record_seen, report_seen, send_sources, source_record_due, sources_sent}, Records.{AskGroup, AskSources, Asked, GroupRecord, apply_record, from_exclude, from_include, is_at_group, record_of, record_with, sources_of_both, with_members, with_record, with_repeats_of_rows}, Sets.Set, State.State, Step.iface_down, Tables.{Table, drop_where, has_row, is_among}}}
use Rattle.law_settled.{proofs.{ListLaws.by_cond, RowLaws.{has_row_dropped, has_row_put, has_row_replaced}, TurnLaws.kept_in_turn}}
use Rattle.law_streams.{proofs.{Keyed.{Under, under_where}, Repeats.{Fits, IsRepeat, group_asked, group_lowered, left_where, lowered_there, members_fit, record_fits, sources_asked, sources_lowered, under_more, under_rest}}}

-- ---- what a record asks for

-- the group is asked for only where its timer runs
abbrev AsksIf : Bool → Asked → Type 0
AsksIf b AskGroup = b ≡ true
AsksIf b (AskSources sources) = Unit {0}

include_asks : (full : ℕ) (r : GroupRecord) (type : RecordType) (named : Set) (all : List ℕ)
    → AllByRecursion (AsksIf (is_some (from_include full r type named all).0.timer)) (from_include full r type named all).1
unfolding from_include
include_asks full r type named all = grind arith

exclude_asks : (full end : ℕ) (r : GroupRecord) (type : RecordType) (named : Set) (all : List ℕ)
    → AllByRecursion (AsksIf (is_some (from_exclude full end r type named all).0.timer)) (from_exclude full end r type named all).1
unfolding from_exclude record_with
exclude_asks full end r type named all = grind arith

applied_asks : (full : ℕ) (r : GroupRecord) (type : RecordType) (sources : List ℕ)
    → AllByRecursion (AsksIf (is_some (apply_record full r type sources).0.timer)) (apply_record full r type sources).1
unfolding apply_record
applied_asks full r type sources = go r.timer
  where
    all : List ℕ
    all = sources_of_both r sources

    named : Set
    named = λ src. is_among src sources

    from : Option ℕ → GroupRecord × List Asked
    from o = elim o [ None ↦ from_include full r type named all | Some end ↦ from_exclude full end r type named all ]

    go : (o : Option ℕ) → AllByRecursion (AsksIf (is_some (from o).0.timer)) (from o).1
    go None = include_asks full r type named all
    go (Some end) = exclude_asks full end r type named all

-- ---- the queries of a record

group_stays : (s : State) (i g : ℕ) (asked : List ℕ) → (query_sources s i g asked).0.group_records ≡ s.group_records
unfolding query_sources lower_sources send_sources sources_sent
group_stays s i g asked = grind arith

module _ (i g : ℕ) where
  abbrev there : State → Bool
  there s = has_row s.group_records (star_key i g)

  asked_there : (s : State) (a : Asked) → there s ≡ true → there (query_asked i g s a).0 ≡ true
  unfolding query_asked query_group
  asked_there s a e = grind (arith, lowered_there, group_stays)

  asked_fits : (s : State) (b : Bool) (a : Asked) → AsksIf b a → (b ≡ true → there s ≡ true) → Fits s → Fits (query_asked i g s a).0
  unfolding query_asked
  asked_fits s b a asks e f = grind (arith, group_asked, sources_asked)

  all_asked : (b : Bool) (asked : List Asked) (s : State) → AllByRecursion (AsksIf b) asked → (b ≡ true → there s ≡ true) → Fits s
      → Fits (each_in_turn (query_asked i g) s asked).0
  unfolding each_in_turn
  all_asked b [] s asks e f = f
  all_asked b (a ∷ as') s asks e f =
      all_asked b as' (query_asked i g s a).0 asks.1 (λ h. asked_there s a (e h)) (asked_fits s b a asks.0 e f)

  is_record : (o : Option ℕ) (empty : Bool) → is_some o ≡ true → (is_none o && empty) ≡ false
  is_record o empty e = grind arith

  timed_there : (s : State) (r : GroupRecord) → is_some r.timer ≡ true → there (with_record s i g r) ≡ true
  unfolding with_record with_members with_repeats_of_rows
  timed_there s r e = grind (arith, is_record, has_row_put, or_left, same_key_same)

pub seen_fits : (i : ℕ) (s : State) (r : Record) → Fits s → Fits (record_seen i s r).0
unfolding record_seen
seen_fits i s r f =
    let applied : GroupRecord × List Asked =
    apply_record (s.present + group_membership_interval s i) (record_of s i r.group) r.type r.sources in
    let written : State = with_record s i r.group applied.0 in
    let fits : Fits written = record_fits s i r.group applied.0 f in
    by_cond (λ (p : State × List Message). Fits p.0) (is_querier s i) (each_in_turn (query_asked i r.group) written applied.1) (written, [])
    (all_asked i r.group (is_some (applied.0).timer) applied.1 written
    (applied_asks (s.present + group_membership_interval s i) (record_of s i r.group) r.type r.sources)
    (timed_there i r.group s applied.0) fits) fits

pub report_fits : (s : State) (i : ℕ) (records : List Record) → Fits s → Fits (report_seen s i records).0
unfolding report_seen
report_fits s i records f = kept_in_turn (record_seen i) Fits (seen_fits i) (filter (λ r. not (is_skipped r)) records) s f

-- ---- an interface

-- the rows that are left are of another interface
left_there : {R : Type 0} (i : ℕ) (t : Table R) (k : Key) → has_row t k ≡ true → is_on i k ≡ false → has_row (drop_where (is_on i) t) k ≡ true
left_there i t k h out = has_row_dropped k (is_on i) t ∙ both_true (ap not out) h

other_link : (i : ℕ) (k q : Key) (g : ℕ) → is_on i k ≡ false → is_at_group (iface_in k) g q ≡ true → is_on i q ≡ false
other_link i k q g out here = grind (arith, eqb-true)

repeats_left : (i : ℕ) (s : State) → Fits s → Under (IsRepeat (drop_where (is_on i) s.sendings)) (drop_where (is_on i) s.source_repeats)
repeats_left i s f =
    under_rest (IsRepeat s.sendings) (IsRepeat (drop_where (is_on i) s.sendings)) (is_on i)
    (λ k h out. record {
      star = h.star;
      left = left_where (is_on i) s.sendings (iface_in k) (group_in k) (λ q e. other_link i k q (group_in k) out e) h.left;
    }) s.source_repeats f.sources

pub down_fits : (s : State) (i : ℕ) → Fits s → Fits (iface_down s i)
unfolding iface_down
down_fits s i f = record {
  groups = under_rest (λ k. has_row s.group_records k ≡ true) (λ k. has_row (drop_where (is_on i) s.group_records) k ≡ true) (is_on i)
      (left_there i s.group_records) s.group_repeats f.groups;
  sendings = under_rest (λ k. has_row s.source_records k ≡ true) (λ k. has_row (drop_where (is_on i) s.source_records) k ≡ true) (is_on i)
      (left_there i s.source_records) s.sendings f.sendings;
  sources = repeats_left i s f;
}

-- ---- a query

elected_fits : (s : State) (i qrv qqi : ℕ) → Fits s → Fits (querier_elected s i qrv qqi)
unfolding querier_elected
elected_fits s i qrv qqi f = grind (arith, under_where, repeats_left)

queried_fits : (s : State) (i : ℕ) (q : QueryValue) → Fits s → Fits (lower_queried s i q)
unfolding lower_queried
queried_fits s i q f = grind (arith, by_cond, group_lowered, sources_lowered)

pub query_fits : (s : State) (i from : ℕ) (q : QueryValue) → Fits s → Fits (query_seen s i from q)
unfolding query_seen
query_fits s i from q f = grind (arith, queried_fits, by_cond, elected_fits)

-- ---- the ends of records

pub group_due_fits : (s : State) (i g : ℕ) → Fits s → Fits (group_record_due s i g)
unfolding group_record_due
group_due_fits s i g f =
    members_fit _ i g _
    (record {
      groups = under_more (λ k. has_row s.group_records k ≡ true) _
          (λ k h. has_row_replaced k (record { end = None }) (star_key i g) s.group_records ∙ h) s.group_repeats f.groups;
      sendings = f.sendings;
      sources = f.sources;
    })

pub source_due_fits : (s : State) (i g src : ℕ) → Fits s → Fits (source_record_due s i g src)
unfolding source_record_due
source_due_fits s i g src f = members_fit s i g _ f
