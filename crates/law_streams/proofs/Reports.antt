-- A report adds the groups and sources that it names at most.
use Rattle.std.{proofs.{Common.{◌≡◌, ◌∙◌, ℕ, ◌+◌, ◌≤◌, ◌==◌, nat_lt, not, ◌&&◌, ◌||◌, true, cond, List, [], ◌∷◌, filter, fold, length, map, Option, Some, None, refl, ap, arith, eqb-true}, lemmas.{Bool.{or_left, or_right}, List.Folds.list_any-append}}, specs.List.{AllByRecursion, flat_map, list_any}}
use Rattle.pim_types.{specs.{Keys.{same_key, source_in, source_key, star_key}, declared.fact.{GroupRecordRow.GroupRecordRow, Key.Key, SourceRecordRow.SourceRecordRow}}, proofs.Keys.{equal_keys, same_key_same}}
use Rattle.igmp_wire.{specs.{Values.Record, declared.report.RecordType.RecordType}}
use Rattle.pim_model.{specs.{Downstream.is_named, Full.{needed, reported_groups, reported_sources}, Messages.Message, Querier.{each_in_turn, exceeds, group_membership_interval, is_querier, is_skipped, lower_group, lower_sources, lowered, query_asked, query_end, query_group, query_sources, record_seen, report_seen, send_sources, source_end, sources_sent}, Records.{Asked, SourceState, GroupRecord, Member, apply_record, from_exclude, from_include, is_at_group, member_of, members_of, put_member, record_of, record_with, sources_of_both, with_members, with_record, with_repeats_of_rows}, Sets.Set, State.State, Tables.{Table, ascending, insert_number, is_among, is_empty_list, keys_in}}}
use Rattle.law_settled.{proofs.{ListLaws.{by_cond, each_append, each_filter_map, each_map, each_more, each_passing, each_of_list, each_both}, TurnLaws.kept_in_turn, FineTables.{Fine, fine_drop_at, fine_drop_where, fine_map, fine_put}, RisingKeys.up_of_sorted}, specs.{Laws.is_under_source, Ready.IsSettled}}
use Rattle.law_streams.{specs.Bounded.AddsAtMost, proofs.{Counting.{Within, longer_by_needed, own_rows}, Fewer.{Facts, facts_of, no_more}, Within.{and_none, at_most}}}

-- ---- the sources of a record after a message

module _ (Q : ℕ → Type 0) where
  abbrev Each : List Member → Type 0
  Each ms = AllByRecursion (λ m. Q m.0) ms

  inserted : (n : ℕ) (ms : List ℕ) → Q n → AllByRecursion Q ms → AllByRecursion Q (insert_number n ms)
  unfolding insert_number
  inserted n [] q f = (q, tt)
  inserted n (m ∷ ms) q f =
      by_cond (AllByRecursion Q) (nat_lt n m) (n ∷ m ∷ ms) _ (q, f)
      (by_cond (AllByRecursion Q) (n == m) (m ∷ ms) (m ∷ insert_number n ms) f (f.0, inserted n ms q f.1))

  all_inserted : (ns ms : List ℕ) → AllByRecursion Q ns → AllByRecursion Q ms
      → AllByRecursion Q (fold (λ sorted n. insert_number n sorted) ms ns)
  all_inserted [] ms f g = g
  all_inserted (n ∷ ns) ms f g = all_inserted ns (insert_number n ms) f.1 (inserted n ms f.0 g)

  put_in_order : (ns : List ℕ) → AllByRecursion Q ns → AllByRecursion Q (ascending ns)
  unfolding ascending
  put_in_order ns f = all_inserted ns [] f tt

  of_source_state : (x : ℕ) (source_state : SourceState) (y : Member) → member_of x source_state ≡ Some y → Q x → Q y.0
  of_source_state x source_state y e q = grind arith

  with_each : (timer : Option ℕ) (source_state : ℕ → SourceState) (all : List ℕ) → AllByRecursion Q all → Each (record_with timer source_state all).members
  unfolding record_with
  with_each timer source_state all f =
      each_filter_map Q (λ (m : Member). Q m.0) (λ src. member_of src (source_state src)) (λ x y e q. of_source_state x (source_state x) y e q) all f

  include_each : (full : ℕ) (r : GroupRecord) (type : RecordType) (named : Set) (all : List ℕ) → AllByRecursion Q all → Each r.members
      → Each (from_include full r type named all).0.members
  unfolding from_include
  include_each full r type named all f g = grind (arith, with_each)

  exclude_each : (full end : ℕ) (r : GroupRecord) (type : RecordType) (named : Set) (all : List ℕ) → AllByRecursion Q all
      → Each (from_exclude full end r type named all).0.members
  unfolding from_exclude
  exclude_each full end r type named all f = grind (arith, with_each)

  applied_each : (full : ℕ) (timer : Option ℕ) (ms : List Member) (type : RecordType) (sources : List ℕ) → Each ms → AllByRecursion Q sources
      → Each (apply_record full (record { timer = timer; members = ms }) type sources).0.members
  unfolding apply_record
  applied_each full timer ms type sources f g = go timer
    where
      every : AllByRecursion Q (sources_of_both (record { timer = timer; members = ms }) sources)
      every =
          put_in_order _
          (each_append Q (map (λ (m : Member). m.0) ms) sources
          (each_map (λ (m : Member). Q m.0) Q (λ (m : Member). m.0) (λ m q. q) ms f) g)

      go : (o : Option ℕ)
          → Each (let p : GroupRecord × List Asked = elim o [
            | None ↦ from_include full (record { timer = timer; members = ms }) type (λ src. is_among src sources) (sources_of_both (record { timer = timer; members = ms }) sources)
            | Some end ↦ from_exclude full end (record { timer = timer; members = ms }) type (λ src. is_among src sources) (sources_of_both (record { timer = timer; members = ms }) sources)
          ] in (p.0).members)
      go None = include_each full _ type _ _ every f
      go (Some end) = exclude_each full end _ type _ _ every

-- ---- the named records

own_group : (i : ℕ) (rs : List Record)
    → AllByRecursion (λ (r : Record). is_named (map (λ (x : Record). star_key i x.group) rs) (star_key i r.group) ≡ true) rs
unfolding is_named
own_group i [] = tt
own_group i (r ∷ rs) = (
  or_left _ _ (same_key_same (star_key i r.group)),
  each_more _ _ (λ (x : Record) f. or_right (same_key (star_key i x.group) (star_key i r.group)) _ f) rs (own_group i rs),
)

own_source : (i g : ℕ) (sources : List ℕ)
    → AllByRecursion (λ src. is_named (map (source_key i g) sources) (source_key i g src) ≡ true) sources
unfolding is_named
own_source i g [] = tt
own_source i g (x ∷ xs) = (
  or_left _ _ (same_key_same (source_key i g x)),
  each_more _ _ (λ src f. or_right (same_key (source_key i g src) (source_key i g x)) _ f) xs (own_source i g xs),
)

abbrev sources_named : ℕ → List Record → List Key
sources_named i rs = flat_map (λ (r : Record). map (source_key i r.group) r.sources) rs

own_sources : (i : ℕ) (rs : List Record)
    → AllByRecursion (λ (r : Record). AllByRecursion (λ src. is_named (sources_named i rs) (source_key i r.group src) ≡ true) r.sources) rs
unfolding is_named
own_sources i [] = tt
own_sources i (r ∷ rs) = (
  each_more _ _
      (λ src f. list_any-append (same_key (source_key i r.group src)) (map (source_key i r.group) r.sources) (sources_named i rs)
      ∙ or_left (is_named (map (source_key i r.group) r.sources) (source_key i r.group src)) _ f)
      r.sources (own_source i r.group r.sources),
  each_more _ _
      (λ (x : Record) f. each_more _ _
      (λ src g. list_any-append (same_key (source_key i x.group src)) (map (source_key i r.group) r.sources) (sources_named i rs)
      ∙ or_right (is_named (map (source_key i r.group) r.sources) (source_key i x.group src)) _ g) x.sources f)
      rs (own_sources i rs),
)

-- ---- what a report keeps

module _ (s : State) (i : ℕ) (kg km : List Key) where
  abbrev GroupOk : Key × GroupRecordRow → Type 0
  GroupOk e = Within s.group_records kg e

  abbrev KeyOk : Key → Type 0
  KeyOk k = (is_named (keys_in s.source_records) k || is_named km k) ≡ true

  abbrev MemberOk : Key × SourceRecordRow → Type 0
  MemberOk e = KeyOk e.0 × (is_under_source e ≡ true)

  record Kept (x : Facts) : Type 0 where
    others : (let y : Facts = record x { groups = s.group_records; members = s.source_records } in y) ≡ facts_of s
    groups : Fine GroupOk x.groups
    members : Fine MemberOk x.members

  abbrev Holds : State → Type 0
  Holds t = Kept (facts_of t)

  abbrev IsNamedRecord : Record → Type 0
  IsNamedRecord r =
      (is_named kg (star_key i r.group) ≡ true)
      × AllByRecursion (λ src. is_named km (source_key i r.group src) ≡ true) r.sources

  abbrev SourceOk : ℕ → ℕ → Type 0
  SourceOk g src = KeyOk (source_key i g src)

  own_key : (g : ℕ) (e : Key × SourceRecordRow) → MemberOk e → is_at_group i g e.0 ≡ true → SourceOk g (source_in e.0)
  own_key g e f at = grind (arith, eqb-true, equal_keys)

  found_each : (t : State) (g : ℕ) → Holds t → AllByRecursion (λ (m : Member). SourceOk g m.0) (record_of t i g).members
  unfolding record_of members_of
  found_each t g f =
      each_map (λ e. MemberOk e × (is_at_group i g e.0 ≡ true)) (λ (m : Member). SourceOk g m.0)
      (λ (e : Key × SourceRecordRow). let p : Member = (source_in e.0, (e.1).end) in p)
      (λ e h. own_key g e h.0 h.1) (filter (λ e. is_at_group i g e.0) t.source_records)
      (each_passing MemberOk (λ e. is_at_group i g e.0) t.source_records f.members.each)

  put_members : (g : ℕ) (ms : List Member) (t : Table SourceRecordRow) → AllByRecursion (λ (m : Member). SourceOk g m.0) ms
      → Fine MemberOk t → Fine MemberOk (fold (put_member i g) t ms)
  put_members g [] t f h = h
  put_members g (m ∷ ms) t f h =
      put_members g ms (put_member i g t m) f.1
      (fine_put MemberOk t (source_key i g m.0) (record { end = m.1 }) (f.0, same_key_same (source_key i g m.0)) h)

  record_holds : (t : State) (g : ℕ) (r : GroupRecord) → is_named kg (star_key i g) ≡ true
      → AllByRecursion (λ (m : Member). SourceOk g m.0) r.members → Holds t → Holds (with_record t i g r)
  unfolding with_record with_members with_repeats_of_rows
  record_holds t g r named each f =
      grind (arith, fine_put, or_right, by_cond, fine_drop_at, put_members, fine_drop_where)

  group_entry : ℕ → ℕ → Key × GroupRecordRow → Key × GroupRecordRow
  group_entry g end e = cond (same_key (star_key i g) e.0) (let p : Key × GroupRecordRow = (e.0, record { end = lowered end (e.1).end }) in p) e

  source_entry : ℕ → List ℕ → ℕ → Key × SourceRecordRow → Key × SourceRecordRow
  source_entry g sources end e =
      cond (is_at_group i g e.0 && list_any (λ m. m == source_in e.0) sources)
      (let p : Key × SourceRecordRow = (e.0, record { end = lowered end (e.1).end }) in p) e

  group_lowered : (t : State) (g end : ℕ) → Holds t → Holds (lower_group t i g end)
  unfolding lower_group group_entry
  group_lowered t g end f = record {
    others = f.others;
    groups = fine_map GroupOk (group_entry g end)
        (λ e. by_cond (λ (p : Key × GroupRecordRow). p.0 ≡ e.0) (same_key (star_key i g) e.0) _ e refl refl)
        (λ e h. by_cond GroupOk (same_key (star_key i g) e.0) _ e h h) t.group_records f.groups;
    members = f.members;
  }

  sources_lowered : (t : State) (g : ℕ) (sources : List ℕ) (end : ℕ) → Holds t → Holds (lower_sources t i g sources end)
  unfolding lower_sources source_entry is_among
  sources_lowered t g sources end f = record {
    others = f.others;
    groups = f.groups;
    members = fine_map MemberOk (source_entry g sources end)
        (λ e. by_cond (λ (p : Key × SourceRecordRow). p.0 ≡ e.0) _ _ e refl refl)
        (λ e h. by_cond MemberOk _ _ e h h) t.source_records f.members;
  }

  sources_facts : (t : State) (g : ℕ) (asked : List ℕ)
      → (let sources : List ℕ = filter (λ src. exceeds (query_end t i) (source_end t i g src)) asked in
      facts_of (query_sources t i g asked).0
      ≡ cond (is_empty_list sources) (facts_of t) (facts_of (lower_sources t i g sources (query_end t i))))
  unfolding query_sources send_sources sources_sent lower_sources
  sources_facts t g asked = grind arith

  asked_holds : (g : ℕ) (t : State) (a : Asked) → Holds t → Holds (query_asked i g t a).0
  unfolding query_asked query_group
  asked_holds g t a f = grind (arith, group_lowered, sources_facts, by_cond, sources_lowered)

  seen_holds : (t : State) (r : Record) → IsNamedRecord r → Holds t → Holds (record_seen i t r).0
  unfolding record_seen
  seen_holds t r named f =
      let full : ℕ = t.present + group_membership_interval t i in
      let applied : GroupRecord × List Asked = apply_record full (record_of t i r.group) r.type r.sources in
      let written : Holds (with_record t i r.group applied.0) =
      record_holds t r.group applied.0 named.0
      (applied_each (SourceOk r.group) full (record_of t i r.group).timer (record_of t i r.group).members r.type r.sources
      (found_each t r.group f)
      (each_more _ (SourceOk r.group) (λ src h. or_right (is_named (keys_in s.source_records) (source_key i r.group src)) _ h) r.sources named.1)) f in
      by_cond (λ (p : State × List Message). Holds p.0) (is_querier t i) _ _
      (kept_in_turn (query_asked i r.group) Holds (λ u a h. asked_holds r.group u a h) applied.1 (with_record t i r.group applied.0) written)
      written

  all_hold : (rs : List Record) → AllByRecursion IsNamedRecord rs → (t : State) → Holds t → Holds (each_in_turn (record_seen i) t rs).0
  unfolding each_in_turn
  all_hold [] named t f = f
  all_hold (r ∷ rs) named t f = all_hold rs named.1 (record_seen i t r).0 (seen_holds t r named.0 f)

module _ (s : State) (settled : IsSettled s) (i : ℕ) (records : List Record) where
  abbrev seen : List Record
  seen = filter (λ (r : Record). not (is_skipped r)) records

  abbrev groups_seen : List Key
  groups_seen = map (λ (r : Record). star_key i r.group) seen

  abbrev sources_seen : List Key
  sources_seen = sources_named i seen

  report_keeps : Kept s i groups_seen sources_seen (facts_of (report_seen s i records).0)
  unfolding report_seen
  report_keeps =
      all_hold s i groups_seen sources_seen seen
      (each_both _ _ (IsNamedRecord s i groups_seen sources_seen) (λ x g h. (g, h)) seen (own_group i seen) (own_sources i seen)) s
      (record {
        others = refl;
        groups = record { up = up_of_sorted s.group_records settled.ordered.group_records; each = own_rows s.group_records groups_seen };
        members = record {
          up = up_of_sorted s.source_records settled.ordered.source_records;
          each = each_both (λ x. Within s.source_records sources_seen x) (λ x. is_under_source x ≡ true)
              (MemberOk s i groups_seen sources_seen) (λ x g h. (g, h)) s.source_records
              (own_rows s.source_records sources_seen)
              (each_of_list is_under_source s.source_records settled.ahead.firable.source_records);
        };
      })

  -- the groups after it are those before it and those that it names
  pub groups_within : AllByRecursion (Within s.group_records (reported_groups i records)) (report_seen s i records).0.group_records
  unfolding reported_groups
  groups_within = report_keeps.groups.each

  pub others_stay : (let y : Facts = record (facts_of (report_seen s i records).0) { groups = s.group_records; members = s.source_records } in y) ≡ facts_of s
  others_stay = report_keeps.others

  pub report_adds
      : AddsAtMost (needed s.group_records (reported_groups i records) + needed s.source_records (reported_sources i records)) s
      (report_seen s i records).0
  unfolding reported_groups reported_sources
  report_adds =
      let t : State = (report_seen s i records).0 in
      let last : Kept s i groups_seen sources_seen (facts_of t) = report_keeps in
      let a : length t.group_records ≤ length s.group_records + needed s.group_records groups_seen =
      longer_by_needed s.group_records groups_seen t.group_records last.groups.up last.groups.each in
      let b : length t.source_records ≤ length s.source_records + needed s.source_records sources_seen =
      longer_by_needed s.source_records sources_seen t.source_records last.members.up
      (each_more (MemberOk s i groups_seen sources_seen) (λ x. Within s.source_records sources_seen x) (λ x g. g.0) t.source_records last.members.each) in
      at_most (needed s.group_records groups_seen + needed s.source_records sources_seen) 0 (needed s.group_records groups_seen)
      (needed s.source_records sources_seen) 0 0 s t
      (record {
        settings = ap (λ (x : Facts). x.settings) last.others;
        neighbours = and_none _ _ (no_more _ _ (ap (λ (x : Facts). length x.neighbours) last.others));
        groups = a;
        members = b;
        downstream = and_none _ _ (no_more _ _ (ap (λ (x : Facts). length x.downstream) last.others));
        sources = and_none _ _ (no_more _ _ (ap (λ (x : Facts). length x.sources) last.others));
      })
      (omega arith)
