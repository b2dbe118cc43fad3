-- What is remembered of groups while the records of a report are taken: a record sets the timers of sources that it
-- names alone, so that with these the list goes on to have all sources whose timers expire late.
use Rattle.std.{proofs.{Common.{◌≡◌, ◌==◌, ◌&&◌, ◌||◌, ◌++◌, ℕ, Bool, true, false, not, nat_lt, min, cond, Result, Ok, Err, IfOk, List, [], ◌∷◌, find, fold, map, Option, Some, None, eqb-true, eq-eqb, refl, ap, sym, subst, ◌∙◌, arith}, lemmas.{Bool.{or_left, or_right}, Grind.common_steps, List.Folds.list_any-append}}, specs.{Cmp.{first_so, second_so}, List.{AllByRecursion, cons_option, filter, list_any, Sorted.IsStrictlySortedBy}, Option.option_map_or, Ordering.nat_cmp}}
use Rattle.igmp_wire.{specs.{declared.report.RecordType.RecordType, Values.Record, Written.bits_of}}
use Rattle.pim_filters.{specs.Members.{IsAscending, is_named_source}, proofs.{Merging.source_state_among, Orders.{Rises, Rises-from_sorted, none_below, same_rising, sorted_from_Rises}}}
use Rattle.pim_ip.{specs.declared.addr.Addr.Addr}
use Rattle.pim_types.{specs.{declared.fact.{Key.Key, SendingRow.SendingRow, SourceRecordRow.SourceRecordRow}, Keys.{group_in, iface_in, is_of_group, is_on, same_key, source_in, source_key}}, proofs.Keys.{equal_keys, same_key_same}}
use Rattle.pim_model.{specs.{Messages.Message, Querier.{exceeds, group_end, is_querier, lower_group, lower_sources, lowered, query_asked, query_end, query_group, query_sources, record_seen, robustness, send_sources, source_end, sources_sent}, Records.{AskGroup, AskSources, Asked, SourceState, Absent, Excluded, Included, GroupRecord, Member, apply_record, from_exclude, from_include, is_at_group, member_of, members_of, put_member, record_of, record_with, source_state_in, with_members, with_record, with_repeats_of_rows}, Sets.Set, State.State, Tables.{Table, drop_where, is_among, is_empty_list, put}}}
use Rattle.law_settled.{specs.Laws.is_under_source, proofs.{ListLaws.{by_cond, each_both, each_filter, each_map, each_more}, RecordsKept.equal_forms, RowLaws.each_put, TurnLaws.kept_in_turn}}
use Rattle.pim_querier.{specs.{Looking.{GrowsLate, ListsLate, is_late_among, source_keys}, Reports.known_members}, proofs.{LateSources.{is_late, late_members, late_rise}, NamedRecords.{gathered_knows, gone_of, is_member, members_among}, NamedSet.set_among, NamedSources.known, OneSource.AreSources, Reported.numbers_of_rows}}

-- ---- nothing is listed

pub nothing_listed : (i end : ℕ) (late : List Key) (rows : Table SourceRecordRow) → ListsLate i end [] late rows
nothing_listed i end late [] = tt
nothing_listed i end late (e ∷ rows) =
    (λ f. none (iface_in e.0 == i) (is_named_source (group_in e.0) []) (exceeds end (e.1).end) refl f, nothing_listed i end late rows)
  where
    none : (a n b : Bool) → n ≡ false → (a && n && b) ≡ true → list_any (same_key e.0) late ≡ true
    none a true b is f = cc is
    none true false true is f = cc f
    none true false false is f = cc f
    none false false b is f = cc f

-- ---- what a record leaves of its sources' timers

-- a timer expires late only for such a source
module _ (m : ℕ) (Q : ℕ → Type 0) where
  abbrev StateSo : ℕ → SourceState → Type 0
  StateSo src (Included end) = nat_lt m end ≡ true → Q src
  StateSo src _ = Unit {0}

  abbrev pub EndSo : ℕ → Option ℕ → Type 0
  EndSo src end = exceeds m end ≡ true → Q src

  abbrev pub MembersSo : List Member → Type 0
  MembersSo ms = AllByRecursion (λ (e : Member). EndSo e.0 e.1) ms

  any_so : (src : ℕ) (f : SourceState) → Q src → StateSo src f
  any_so src Absent q = tt
  any_so src Excluded q = tt
  any_so src (Included end) q = λ late. q

  state_of_end : (src : ℕ) (end : Option ℕ) → EndSo src end → StateSo src (option_map_or Included end Excluded)
  state_of_end src None f = tt
  state_of_end src (Some end) f = f

  old_state : (timer : Option ℕ) (ms : List Member) → MembersSo ms → (src : ℕ)
      → StateSo src (source_state_in (record { timer = timer; members = ms }) src)
  unfolding source_state_in
  old_state timer [] f src = tt
  old_state timer (e ∷ ms) f src = go (e.0 == src) refl (old_state timer ms f.1 src)
    where
      go : (b : Bool) → (e.0 == src) ≡ b → StateSo src (source_state_in (record { timer = timer; members = ms }) src)
          → StateSo src (option_map_or (λ (x : Member). option_map_or Included x.1 Excluded)
          (cond b (Some e) (find (λ x. x.0 == src) ms)) Absent)
      go true is rest = state_of_end src e.1 (subst (λ (n : ℕ). EndSo n e.1) (eqb-true e.0 src is) f.0)
      go false is rest = rest

  with_state : (src : ℕ) (f : SourceState) (ms : List Member) → StateSo src f → MembersSo ms
      → MembersSo (cons_option (member_of src f) ms)
  with_state src Absent ms so rest = rest
  with_state src Excluded ms so rest = (λ late. cc, rest)
  with_state src (Included end) ms so rest = (so, rest)

  states_so : (timer : Option ℕ) (states : ℕ → SourceState) (all : List ℕ) → ((src : ℕ) → StateSo src (states src))
      → MembersSo (record_with timer states all).members
  unfolding record_with
  states_so timer states [] so = tt
  states_so timer states (src ∷ all) so = with_state src (states src) _ (so src) (states_so timer states all so)

  module _ (named : Set) (its : (src : ℕ) → named src ≡ true → Q src) where
    either_so : (src : ℕ) (b : Bool) (f g : SourceState) → (b ≡ true → Q src) → StateSo src g → StateSo src (cond b f g)
    either_so src true f g q so = any_so src f (q refl)
    either_so src false f g q so = so

    module _ (full : ℕ) (r : GroupRecord) (old : (src : ℕ) → StateSo src (source_state_in r src)) (all : List ℕ) where
      from_include_so : (type : RecordType) → MembersSo r.members → MembersSo (from_include full r type named all).0.members
      unfolding from_include
      from_include_so RecordType.IsInclude so = states_so _ _ all (λ src. either_so src (named src) _ _ (its src) (old src))
      from_include_so RecordType.Allow so = states_so _ _ all (λ src. either_so src (named src) _ _ (its src) (old src))
      from_include_so RecordType.ToInclude so = states_so _ _ all (λ src. either_so src (named src) _ _ (its src) (old src))
      from_include_so RecordType.IsExclude so = states_so _ _ all (λ src. either_so src (named src) _ _ (its src) tt)
      from_include_so RecordType.ToExclude so = states_so _ _ all (λ src. either_so src (named src) _ _ (its src) tt)
      from_include_so RecordType.Block so = so

      from_exclude_so : (end : ℕ) (type : RecordType) → MembersSo (from_exclude full end r type named all).0.members
      unfolding from_exclude
      from_exclude_so end RecordType.IsInclude = states_so _ _ all (λ src. either_so src (named src) _ _ (its src) (old src))
      from_exclude_so end RecordType.Allow = states_so _ _ all (λ src. either_so src (named src) _ _ (its src) (old src))
      from_exclude_so end RecordType.ToInclude = states_so _ _ all (λ src. either_so src (named src) _ _ (its src) (old src))
      from_exclude_so end RecordType.IsExclude = states_so _ _ all (λ src. either_so src (named src) _ _ (its src) tt)
      from_exclude_so end RecordType.ToExclude = states_so _ _ all (λ src. either_so src (named src) _ _ (its src) tt)
      from_exclude_so end RecordType.Block = states_so _ _ all (λ src. either_so src (named src) _ _ (its src) (old src))

  of_parts : (full : ℕ) (sources : List ℕ) (timer : Option ℕ) (ms : List Member) (type : RecordType)
      → ((src : ℕ) → is_among src sources ≡ true → Q src) → MembersSo ms
      → MembersSo (apply_record full (record { timer = timer; members = ms }) type sources).0.members
  unfolding apply_record
  of_parts full sources None ms type its so =
      from_include_so (λ src. is_among src sources) its full (record { timer = None; members = ms }) (old_state None ms so) _ type so
  of_parts full sources (Some end) ms type its so =
      from_exclude_so (λ src. is_among src sources) its full (record { timer = Some end; members = ms }) (old_state (Some end) ms so) _ end
      type

  pub applied_so : (full : ℕ) (sources : List ℕ) (r : GroupRecord) (type : RecordType)
      → ((src : ℕ) → is_among src sources ≡ true → Q src) → MembersSo r.members
      → MembersSo (apply_record full r type sources).0.members
  applied_so full sources r type its so = of_parts full sources r.timer r.members type its so

-- ---- what the list has after a record

module _ (i end : ℕ) (groups : List Addr) (late : List Key) where
  abbrev Listed : Key × SourceRecordRow → Type 0
  Listed e = is_late_among i groups end e ≡ true → list_any (same_key e.0) late ≡ true

  abbrev AllListed : Table SourceRecordRow → Type 0
  AllListed rows = AllByRecursion Listed rows

  -- lowered timers
  lowered_exceeds : (at : ℕ) (o : Option ℕ) → exceeds end (lowered at o) ≡ true → exceeds end o ≡ true
  lowered_exceeds at None f = f
  lowered_exceeds at (Some n) f = sooner end n at f
    where
      sooner : (m n k : ℕ) → nat_lt m (min n k) ≡ true → nat_lt m n ≡ true
      sooner m n k f = grind (arith, common_steps, f)

  all_but : (a b c d : Bool) → (a && b && c) ≡ true → (c ≡ true → d ≡ true) → (a && b && d) ≡ true
  all_but true true true d e f = f refl
  all_but true true false d e f = cc
  all_but true false c d e f = cc
  all_but false b c d e f = cc

  lowered_listed : (at : ℕ) (e : Key × SourceRecordRow) → Listed e → Listed (e.0, record { end = lowered at (e.1).end })
  lowered_listed at e f late =
      f (all_but (iface_in e.0 == i) (is_named_source (group_in e.0) groups) (exceeds end (lowered at (e.1).end))
      (exceeds end (e.1).end) late (lowered_exceeds at (e.1).end))

  sources_lowered : (s : State) (j g : ℕ) (sources : List ℕ) (at : ℕ) → AllListed s.source_records
      → AllListed (lower_sources s j g sources at).source_records
  unfolding lower_sources
  sources_lowered s j g sources at f =
      each_map Listed Listed _
      (λ e h. by_cond Listed (is_at_group j g e.0 && is_among (source_in e.0) sources) (e.0, record { end = lowered at (e.1).end }) e
      (lowered_listed at e h) h) s.source_records f

  sources_queried : (s : State) (j g : ℕ) (asked : List ℕ) → AllListed s.source_records
      → AllListed (query_sources s j g asked).0.source_records
  unfolding query_sources send_sources sources_sent
  sources_queried s j g asked f = go (is_empty_list sources)
    where
      sources : List ℕ
      sources = filter (λ src. exceeds (query_end s j) (source_end s j g src)) asked

      counted : Table SendingRow
      counted = fold (λ t src. put t (source_key j g src) (record { left = robustness s j })) s.sendings sources

      lower : State
      lower = record (lower_sources s j g sources (query_end s j)) { sendings = counted }

      go : (b : Bool)
          → AllListed (elim b as (λ b. State × List Message) [ true ↦ (s, []) | false ↦ send_sources lower j g ]).0.source_records
      go true = f
      go false = sources_lowered s j g sources (query_end s j) f

  asked_listed : (j g : ℕ) (s : State) (a : Asked) → AllListed s.source_records → AllListed (query_asked j g s a).0.source_records
  unfolding query_asked query_group lower_group
  asked_listed j g s AskGroup f = f
  asked_listed j g s (AskSources sources) f = sources_queried s j g sources f

  -- the rows of the group's record
  abbrev Of : ℕ → ℕ → Type 0
  Of g src = is_named_source g groups ≡ true → list_any (same_key (source_key i g src)) late ≡ true

  three : (a b c : Bool) → (a && b && c) ≡ true → (b ≡ true) × (c ≡ true)
  three true true true e = (refl, refl)
  three true true false e = cc
  three true false c e = cc
  three false b c e = cc

  put_listed : (g : ℕ) (ms : List Member) (rows : Table SourceRecordRow) → MembersSo end (Of g) ms → AllListed rows
      → AllListed (fold (put_member i g) rows ms)
  put_listed g [] rows so f = f
  put_listed g (e ∷ ms) rows so f =
      put_listed g ms (put_member i g rows e) so.1
      (each_put (source_key i g e.0) (record { end = e.1 }) Listed
      (λ h. let parts = three (i == i) (is_named_source g groups) (exceeds end e.1) h in so.0 parts.1 parts.0) rows f)

  member_listed : (g : ℕ) (e : Key × SourceRecordRow) → is_at_group i g e.0 ≡ true → is_under_source e ≡ true → Listed e
      → EndSo end (Of g) (source_in e.0) (e.1).end
  member_listed g e here under f late_end among =
      let own : source_key i g (source_in e.0) ≡ e.0 = equal_forms i g e here under in
      subst (λ (k : Key). list_any (same_key k) late ≡ true) (sym own)
      (f (all_three (iface_in e.0 == i) (is_named_source (group_in e.0) groups) (exceeds end (e.1).end)
      (first_so (is_on i e.0) (is_of_group g e.0) here)
      (ap (λ (n : ℕ). is_named_source n groups) (eqb-true (group_in e.0) g (second_so (is_on i e.0) (is_of_group g e.0) here)) ∙ among)
      late_end))
    where
      all_three : (a b c : Bool) → a ≡ true → b ≡ true → c ≡ true → (a && b && c) ≡ true
      all_three a b c x y z = rw (x, y, z) refl

  members_listed : (g : ℕ) (rows : Table SourceRecordRow) → AreSources rows → AllListed rows
      → MembersSo end (Of g) (members_of (filter (λ e. is_at_group i g e.0) rows))
  unfolding members_of
  members_listed g [] under f = tt
  members_listed g (e ∷ rows) under f = go (is_at_group i g e.0) refl (members_listed g rows under.1 f.1)
    where
      go : (b : Bool) → is_at_group i g e.0 ≡ b
          → MembersSo end (Of g) (members_of (filter (λ x. is_at_group i g x.0) rows))
          → MembersSo end (Of g) (members_of (cond b (e ∷ filter (λ x. is_at_group i g x.0) rows) (filter (λ x. is_at_group i g x.0) rows)))
      go true here rest = (member_listed g e here under.0 f.0, rest)
      go false here rest = rest

  with_listed : (s : State) (g full : ℕ) (type : RecordType) (sources : List ℕ) → AreSources s.source_records
      → ((src : ℕ) → is_among src sources ≡ true → Of g src) → AllListed s.source_records
      → AllListed (with_record s i g (apply_record full (record_of s i g) type sources).0).source_records
  unfolding with_record with_members with_repeats_of_rows record_of drop_where
  with_listed s g full type sources under its f =
      put_listed g _ _
      (applied_so end (Of g) full sources (record { timer = group_end s i g; members = members_of (filter (λ e. is_at_group i g e.0) s.source_records) })
      type its (members_listed g s.source_records under f))
      (each_filter Listed (λ e. not (is_at_group i g e.0)) s.source_records f)

  seen_listed : (s : State) (r : Record) → AreSources s.source_records
      → ((src : ℕ) → is_among src r.sources ≡ true → Of r.group src) → AllListed s.source_records
      → AllListed (record_seen i s r).0.source_records
  unfolding record_seen
  seen_listed s r under its f =
      let written = with_listed s r.group _ r.type r.sources under its f in
      by_cond (λ (p : State × List Message). AllListed p.0.source_records) (is_querier s i) _ _
      (kept_in_turn (query_asked i r.group) (λ (t : State). AllListed t.source_records) (λ t a h. asked_listed i r.group t a h) _ _ written)
      written

-- the keys of sources list each of them
its_key : (i g src : ℕ) (sources : List ℕ) → is_among src sources ≡ true
    → list_any (same_key (source_key i g src)) (source_keys i g sources) ≡ true
unfolding is_among
its_key i g src [] e = cc
its_key i g src (n ∷ sources) e = go (n == src) refl (its_key i g src sources) e
  where
    go : (b : Bool) → (n == src) ≡ b
        → (is_among src sources ≡ true → list_any (same_key (source_key i g src)) (source_keys i g sources) ≡ true)
        → (b || is_among src sources) ≡ true
        → (same_key (source_key i g src) (source_key i g n) || list_any (same_key (source_key i g src)) (source_keys i g sources)) ≡ true
    go true is rest e =
        or_left (same_key (source_key i g src) (source_key i g n)) _
        (subst (λ (k : ℕ). same_key (source_key i g src) (source_key i g k) ≡ true) (sym (eqb-true n src is)) (same_key_same (source_key i g src)))
    go false is rest e = or_right (same_key (source_key i g src) (source_key i g n)) _ (rest e)

pub record_grows : (s : State) (i : ℕ) (r : Record) → AreSources s.source_records
    → GrowsLate i r.group r.sources s.source_records (record_seen i s r).0.source_records
record_grows s i r under end groups late f =
    let keys : List Key = source_keys i r.group r.sources in
    seen_listed i end groups (late ++ keys) s r under
    (λ src named among. list_any-append (same_key (source_key i r.group src)) late keys
    ∙ or_right (list_any (same_key (source_key i r.group src)) late) _ (its_key i r.group src r.sources named))
    (each_more (Listed i end groups late) (Listed i end groups (late ++ keys))
    (λ e h is. list_any-append (same_key e.0) late keys ∙ or_left (list_any (same_key e.0) late) _ (h is)) s.source_records f)

-- ---- a group whose late sources are listed

module _ (m : ℕ) where
  abbrev names : List Member → List ℕ
  names es = map (λ (x : Member). x.0) es

  late_by_end : (end : Option ℕ) → is_late m (option_map_or Included end Excluded) ≡ exceeds m end
  late_by_end None = refl
  late_by_end (Some end) = refl

  -- what is late of a source
  abbrev only_late : SourceState → SourceState
  only_late f = cond (is_late m f) f Absent

  late_step : (src : ℕ) (e : Member) (es : List Member) (b c : Bool) → (e.0 == src) ≡ b → exceeds m e.1 ≡ c
      → (b ≡ true → source_state_among es src ≡ Absent)
      → source_state_among (late_members m es) src ≡ only_late (source_state_among es src)
      → source_state_among (cond c (e ∷ late_members m es) (late_members m es)) src ≡ only_late (source_state_among (e ∷ es) src)
  late_step src e es true true own late gone rest =
      rw own (sym (ap (λ (x : Bool). cond x (option_map_or Included e.1 Excluded) Absent) (late_by_end e.1 ∙ late)))
  late_step src e es true false own late gone rest =
      rw own
      (rest ∙ ap only_late (gone refl)
      ∙ sym (ap (λ (x : Bool). cond x (option_map_or Included e.1 Excluded) Absent) (late_by_end e.1 ∙ late)))
  late_step src e es false true own late gone rest = rw own rest
  late_step src e es false false own late gone rest = rw own rest

  late_states : (src : ℕ) (es : List Member) → Rises (names es)
      → source_state_among (late_members m es) src ≡ only_late (source_state_among es src)
  late_states src [] rises = refl
  late_states src (e ∷ es) rises =
      late_step src e es (e.0 == src) (exceeds m e.1) refl refl
      (λ own. gone_of (source_state_among es src)
      (sym (members_among src es) ∙ none_below src e.0 (names es) (omega (arith, eqb-true e.0 src own)) rises.0))
      (late_states src es rises.1)

  -- members that rise, and say the same of each source, are the same
  same_end : (o p : Option ℕ) → option_map_or Included o Excluded ≡ option_map_or Included p Excluded → o ≡ p
  same_end None None e = refl
  same_end None (Some p) e = cc
  same_end (Some o) None e = cc
  same_end (Some o) (Some p) e = let same : o ≡ p = cc in ap Some same

  head_state : (e : Member) (es : List Member) (src : ℕ) → e.0 ≡ src
      → source_state_among (e ∷ es) src ≡ option_map_or Included e.1 Excluded
  head_state e es src own = rw (eq-eqb e.0 src own) refl

  rest_state : (e : Member) (es : List Member) (src : ℕ) → (e.0 == src) ≡ false
      → source_state_among (e ∷ es) src ≡ source_state_among es src
  rest_state e es src apart = rw apart refl

  by_names : (xs ys : List Member) → names xs ≡ names ys → Rises (names xs)
      → ((src : ℕ) → source_state_among xs src ≡ source_state_among ys src) → xs ≡ ys
  by_names [] [] same rises say = refl
  by_names [] (y ∷ ys) same rises say = cc
  by_names (x ∷ xs) [] same rises say = cc
  by_names (x ∷ xs) (y ∷ ys) same rises say =
      let head : x.0 ≡ y.0 = cc in
      let tail : names xs ≡ names ys = cc in
      let end : x.1 ≡ y.1 =
      same_end x.1 y.1 (sym (head_state x xs x.0 refl) ∙ say x.0 ∙ head_state y ys x.0 (sym head)) in
      let rest : xs ≡ ys = by_names xs ys tail rises.1 (λ src. of_rest src head tail (x.0 == src) refl) in
      λ j. (head j, end j) ∷ rest j
    where
      gone : (src : ℕ) (es : List Member) → names es ≡ names xs → x.0 ≡ src → source_state_among es src ≡ Absent
      gone src es are own =
          gone_of (source_state_among es src)
          (sym (members_among src es) ∙ ap (is_among src) are
          ∙ none_below src x.0 (names xs) (omega (arith, own)) rises.0)

      of_rest : (src : ℕ) → x.0 ≡ y.0 → names xs ≡ names ys → (b : Bool) → (x.0 == src) ≡ b
          → source_state_among xs src ≡ source_state_among ys src
      of_rest src head tail true own =
          gone src xs refl (eqb-true x.0 src own) ∙ sym (gone src ys (sym tail) (eqb-true x.0 src own))
      of_rest src head tail false apart =
          sym (rest_state x xs src apart) ∙ say src
          ∙ rest_state y ys src (ap (λ (n : ℕ). n == src) (sym head) ∙ apart)

  same_members : (xs ys : List Member) → Rises (names xs) → Rises (names ys)
      → ((src : ℕ) → source_state_among xs src ≡ source_state_among ys src) → xs ≡ ys
  same_members xs ys first second say =
      by_names xs ys
      (same_rising (names xs) (names ys) first second
      (λ k. members_among k xs ∙ ap is_member (say k) ∙ sym (members_among k ys))) first say

  module _ (i g : ℕ) where
    -- a key that is listed is of a source that is
    in_group : (k : Key) (src : ℕ) (late : List Key) → is_at_group i g k ≡ true → (source_in k == src) ≡ true
        → list_any (same_key k) late ≡ true → is_among src (map source_in (filter (is_at_group i g) late)) ≡ true
    unfolding is_among
    in_group k src [] here own listed = cc
    in_group k src (q ∷ late) here own listed = go (same_key k q) refl (in_group k src late here own) listed
      where
        more : (b : Bool) → is_among src (map source_in (filter (is_at_group i g) late)) ≡ true
            → list_any (λ n. n == src) (map source_in (cond b (q ∷ filter (is_at_group i g) late) (filter (is_at_group i g) late))) ≡ true
        more true e = or_right (source_in q == src) _ e
        more false e = e

        go : (b : Bool) → same_key k q ≡ b
            → (list_any (same_key k) late ≡ true → is_among src (map source_in (filter (is_at_group i g) late)) ≡ true)
            → (b || list_any (same_key k) late) ≡ true
            → list_any (λ n. n == src) (map source_in (cond (is_at_group i g q) (q ∷ filter (is_at_group i g) late) (filter (is_at_group i g) late))) ≡ true
        go true is rest e =
            let same : k ≡ q = equal_keys k q is in
            let there : is_at_group i g q ≡ true = ap (is_at_group i g) (sym same) ∙ here in
            rw there (or_left (source_in q == src) _ (ap (λ (x : Key). source_in x == src) (sym same) ∙ own))
        go false is rest e = more (is_at_group i g q) (rest e)

    module _ (groups : List Addr) (late : List Key) (among : is_named_source g groups ≡ true) where
      abbrev listed : List ℕ
      listed = map source_in (filter (is_at_group i g) late)

      in_three : (k : Key) → is_at_group i g k ≡ true → (c : Bool) → c ≡ true
          → ((iface_in k == i) && is_named_source (group_in k) groups && c) ≡ true
      in_three k here c is =
          rw (
            first_so (is_on i k) (is_of_group g k) here,
            ap (λ (n : ℕ). is_named_source n groups) (eqb-true (group_in k) g (second_so (is_on i k) (is_of_group g k) here)) ∙ among,
            is,
          ) refl

      late_listed : (src : ℕ) (rows : Table SourceRecordRow) → ListsLate i m groups late rows
          → is_late m (source_state_among (known i g rows) src) ≡ true → is_among src listed ≡ true
      unfolding members_of
      late_listed src [] f e = cc
      late_listed src (x ∷ rows) f e = go (is_at_group i g x.0) refl (late_listed src rows f.1) e
        where
          own : is_at_group i g x.0 ≡ true
              → (is_late m (source_state_among (known i g rows) src) ≡ true → is_among src listed ≡ true)
              → (b : Bool) → (source_in x.0 == src) ≡ b
              → is_late m (option_map_or (λ (y : Member). option_map_or Included y.1 Excluded)
              (cond b (Some (let y : Member = (source_in x.0, (x.1).end) in y)) (find (λ (y : Member). y.0 == src) (known i g rows))) Absent) ≡ true
              → is_among src listed ≡ true
          own here rest true is late_end =
              in_group x.0 src late here is
              (f.0 (in_three x.0 here (exceeds m (x.1).end) (sym (late_by_end (x.1).end) ∙ late_end)))
          own here rest false is late_end = rest late_end

          go : (b : Bool) → is_at_group i g x.0 ≡ b
              → (is_late m (source_state_among (known i g rows) src) ≡ true → is_among src listed ≡ true)
              → is_late m (source_state_among (members_of (cond b (x ∷ filter (λ y. is_at_group i g y.0) rows) (filter (λ y. is_at_group i g y.0) rows))) src) ≡ true
              → is_among src listed ≡ true
          go true here rest late_end = own here rest (source_in x.0 == src) refl late_end
          go false here rest late_end = rest late_end

      -- the listed members whose timers expire late are all that do
      pub listed_are_all : (rows : Table SourceRecordRow) (ns : List ℕ) → AreSources rows
          → Rises (names (known i g rows)) → Rises (names (known_members i g rows ns))
          → ((n : ℕ) → is_among n ns ≡ is_among n listed) → ListsLate i m groups late rows
          → late_members m (known_members i g rows ns) ≡ late_members m (known i g rows)
      listed_are_all rows ns under whole_rises rises same f =
          same_members (late_members m (known_members i g rows ns)) (late_members m (known i g rows))
          (late_rises (known_members i g rows ns) rises) (late_rises (known i g rows) whole_rises)
          (λ src. late_states src (known_members i g rows ns) rises
          ∙ ap only_late (gathered_knows i g rows ns listed under same src)
          ∙ by_listed (is_among src listed) (source_state_among (known i g rows) src) (late_listed src rows f)
          ∙ sym (late_states src (known i g rows) whole_rises))
        where
          by_late : (b : Bool) (f : SourceState) → (b ≡ true → false ≡ true) → Absent ≡ cond b f Absent
          by_late true f none = cc (none refl)
          by_late false f none = refl

          by_listed : (b : Bool) (f : SourceState) → (is_late m f ≡ true → b ≡ true) → only_late (cond b f Absent) ≡ only_late f
          by_listed true f all = refl
          by_listed false f all = by_late (is_late m f) f all

          late_rises : (es : List Member) → Rises (names es) → Rises (names (late_members m es))
          late_rises es rises =
              Rises-from_sorted (names (late_members m es)) (late_rise m es (sorted_from_Rises (names es) rises))

    -- ---- a group that was gone over

    -- a late row of the group is of one of these members
    abbrev IsOfOne : List Member → Key × SourceRecordRow → Type 0
    IsOfOne es x =
        is_at_group i g x.0 ≡ true → exceeds m (x.1).end ≡ true → is_among (source_in x.0) (names es) ≡ true

    there : (rows : Table SourceRecordRow) → AllByRecursion (IsOfOne (late_members m (known i g rows))) rows
    unfolding members_of is_among
    there [] = tt
    there (x ∷ rows) = go (is_at_group i g x.0) refl (there rows)
      where
        its : Member
        its = (source_in x.0, (x.1).end)

        one : (c : Bool) → exceeds m (x.1).end ≡ c → exceeds m (x.1).end ≡ true
            → is_among (source_in x.0) (names (cond c (its ∷ late_members m (known i g rows)) (late_members m (known i g rows)))) ≡ true
        one true is late = or_left (source_in x.0 == source_in x.0) _ (eq-eqb (source_in x.0) (source_in x.0) refl)
        one false is late = cc (is, late)

        wider : (c : Bool) (y : Key × SourceRecordRow) → IsOfOne (late_members m (known i g rows)) y
            → IsOfOne (cond c (its ∷ late_members m (known i g rows)) (late_members m (known i g rows))) y
        wider true y f here late = or_right (source_in x.0 == source_in y.0) _ (f here late)
        wider false y f here late = f here late

        go : (b : Bool) → is_at_group i g x.0 ≡ b → AllByRecursion (IsOfOne (late_members m (known i g rows))) rows
            → (let es : List Member = late_members m (members_of (cond b (x ∷ filter (λ y. is_at_group i g y.0) rows) (filter (λ y. is_at_group i g y.0) rows))) in
            AllByRecursion (IsOfOne es) (x ∷ rows))
        go true here f = (
          λ at late. one (exceeds m (x.1).end) refl late,
          each_more (IsOfOne (late_members m (known i g rows))) _ (λ y h. wider (exceeds m (x.1).end) y h) rows f,
        )
        go false here f = (λ at late. cc (here, at), f)

    pub one_added : (groups : List Addr) (a : Addr) (late : List Key) (rows : Table SourceRecordRow) → a.bits ≡ g → AreSources rows
        → ListsLate i m groups late rows
        → ListsLate i m (groups ++ a ∷ []) (late ++ source_keys i g (names (late_members m (known i g rows)))) rows
    one_added groups a late rows own under f =
        each_both (λ e. is_late_among i groups m e ≡ true → list_any (same_key e.0) late ≡ true)
        (λ e. (is_under_source e ≡ true) × IsOfOne (late_members m (known i g rows)) e) (λ e. is_late_among i (groups ++ a ∷ []) m e ≡ true → list_any (same_key e.0) (late ++ keys) ≡ true)
        (λ e h two is. list_any-append (same_key e.0) late keys ∙ by_group e h two.0 two.1 is) rows f
        (each_both (λ e. is_under_source e ≡ true) (IsOfOne (late_members m (known i g rows))) (λ e. (is_under_source e ≡ true) × IsOfOne (late_members m (known i g rows)) e) (λ e x y. (x, y)) rows under (there rows))
      where
        keys : List Key
        keys = source_keys i g (names (late_members m (known i g rows)))

        third : (p q r s : Bool) → (p && (q || (r || false)) && s) ≡ true → (q ≡ false) → (p ≡ true) × (r ≡ true) × (s ≡ true)
        third true false true true e f = (refl, refl, refl)
        third true false true false e f = cc
        third true false false s e f = cc
        third true true r s e f = cc
        third false q r s e f = cc

        second : (p q r s : Bool) → (p && (q || (r || false)) && s) ≡ true → q ≡ true → (p && q && s) ≡ true
        second true true r true e f = refl
        second true true r false e f = cc
        second true false r s e f = cc
        second false q r s e f = cc

        by_group : (e : Key × SourceRecordRow) → (is_late_among i groups m e ≡ true → list_any (same_key e.0) late ≡ true)
            → is_under_source e ≡ true → IsOfOne (late_members m (known i g rows)) e → is_late_among i (groups ++ a ∷ []) m e ≡ true
            → (list_any (same_key e.0) late || list_any (same_key e.0) keys) ≡ true
        by_group e old under new is =
            go (is_named_source (group_in e.0) groups) refl
            (ap (λ (b : Bool). (iface_in e.0 == i) && b && exceeds m (e.1).end)
            (sym (list_any-append (λ (x : Addr). x.bits == group_in e.0) groups (a ∷ []))) ∙ is)
          where
            go : (b : Bool) → is_named_source (group_in e.0) groups ≡ b
                → ((iface_in e.0 == i) && (is_named_source (group_in e.0) groups || ((a.bits == group_in e.0) || false)) && exceeds m (e.1).end) ≡ true
                → (list_any (same_key e.0) late || list_any (same_key e.0) keys) ≡ true
            go true among all =
                or_left (list_any (same_key e.0) late) _
                (old (second (iface_in e.0 == i) (is_named_source (group_in e.0) groups) (a.bits == group_in e.0) (exceeds m (e.1).end) all among))
            go false among all =
                let three = third (iface_in e.0 == i) (is_named_source (group_in e.0) groups) (a.bits == group_in e.0) (exceeds m (e.1).end) all among in
                let of : group_in e.0 ≡ g = sym (eqb-true a.bits (group_in e.0) three.1) ∙ own in
                let here : is_at_group i g e.0 ≡ true = rw (three.0, eq-eqb (group_in e.0) g of) refl in
                or_right (list_any (same_key e.0) late) _
                (subst (λ (k : Key). list_any (same_key k) keys ≡ true) (equal_forms i g e here under)
                (its_key i g (source_in e.0) (names (late_members m (known i g rows))) (new here three.2)))

-- ---- as the code has it

pub if_ok : {A E : Type 0} {P Q : A → Type 0} (r : Result A E) → ((a : A) → P a → Q a) → IfOk r P → IfOk r Q
if_ok (Ok a) f p = f a p
if_ok (Err e) f p = tt

-- the rows of a state that is the same
pub then_grown : (i end : ℕ) (groups : List Addr) (late : List Key) (s t : State) → t ≡ s
    → ListsLate i end groups late s.source_records → ListsLate i end groups late t.source_records
then_grown i end groups late s t same f =
    subst (λ (u : State). ListsLate i end groups late u.source_records) (sym same) f

-- of the same group and sources
pub grows_as : (i g h : ℕ) (ns ms : List ℕ) (before after : Table SourceRecordRow) → h ≡ g → ms ≡ ns
    → GrowsLate i g ns before after → GrowsLate i h ms before after
grows_as i g h ns ms before after group named grows =
    subst (λ (n : ℕ). GrowsLate i n ms before after) (sym group)
    (subst (λ (xs : List ℕ). GrowsLate i g xs before after) (sym named) grows)

pub listed_past_are : (s : State) (i g end moment : ℕ) (groups : List Addr) (late : List Key) (found set : List Addr)
    (es : List Member) → ((end == moment) && is_named_source g groups) ≡ true
    → ListsLate i end groups late s.source_records → AreSources s.source_records
    → IsStrictlySortedBy nat_cmp (map (λ (e : Key × SourceRecordRow). source_in e.0)
    (filter (λ e. is_at_group i g e.0) s.source_records))
    → bits_of found ≡ map source_in (filter (is_at_group i g) late)
    → ((n : ℕ) → is_named_source n set ≡ is_named_source n found)
    → es ≡ known_members i g s.source_records (bits_of set) → IsAscending es
    → late_members moment es ≡ late_members moment (record_of s i g).members
unfolding record_of
listed_past_are s i g end moment groups late found set es listed f under rising are same members ascending =
    ap (late_members moment) members
    ∙ listed_are_all moment i g groups late (second_so (end == moment) (is_named_source g groups) listed) s.source_records
    (bits_of set) under
    (Rises-from_sorted (map (λ (m : Member). m.0) (known i g s.source_records))
    (subst (IsStrictlySortedBy nat_cmp) (sym (numbers_of_rows (filter (λ e. is_at_group i g e.0) s.source_records))) rising))
    (Rises-from_sorted (map (λ (m : Member). m.0) (known_members i g s.source_records (bits_of set))) (subst IsAscending members ascending))
    (λ n. set_among set found same n ∙ ap (is_among n) are)
    (subst (λ (m : ℕ). ListsLate i m groups late s.source_records)
    (eqb-true end moment (first_so (end == moment) (is_named_source g groups) listed)) f)

pub added : (s : State) (i g m end : ℕ) (groups more : List Addr) (a : Addr) (late keys : List Key) (es : List Member)
    → a.bits ≡ g → AreSources s.source_records → (end == m) ≡ true → es ≡ late_members m (record_of s i g).members
    → more ≡ groups ++ a ∷ [] → keys ≡ late ++ source_keys i g (map (λ (x : Member). x.0) es)
    → ListsLate i end groups late s.source_records → ListsLate i end more keys s.source_records
unfolding record_of
added s i g m end groups more a late keys es own under at are grown put f =
    let same : end ≡ m = eqb-true end m at in
    let whole : ListsLate i m (groups ++ a ∷ [])
    (late ++ source_keys i g (map (λ (x : Member). x.0) (late_members m (known i g s.source_records)))) s.source_records =
    one_added m i g groups a late s.source_records own under (subst (λ (n : ℕ). ListsLate i n groups late s.source_records) same f) in
    subst (λ (n : ℕ). ListsLate i n more keys s.source_records) (sym same)
    (subst (λ (gs : List Addr). ListsLate i m gs keys s.source_records) (sym grown)
    (subst (λ (ks : List Key). ListsLate i m (groups ++ a ∷ []) ks s.source_records)
    (sym (put ∙ ap (λ (xs : List Member). late ++ source_keys i g (map (λ (x : Member). x.0) xs)) are)) whole))
