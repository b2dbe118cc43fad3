-- IGMP's rows as they are read and written, and their timers.
use Rattle.std.{proofs.Common.{filter, ◌≡◌, ◌∙◌, ℕ, Bool, true, false, cond, List, [], ◌∷◌, map, fold, Option, Some, None, is_some, refl, sym, ap, arith}, specs.{List.AllByRecursion, Option.option_and_then}}
use Rattle.pim_types.{specs.{Keys.{group_in, iface_in, same_key, source_in, source_key, star_key}, declared.fact.{GroupRecordRow.GroupRecordRow, Key.Key, SourceRecordRow.SourceRecordRow}}}
use Rattle.igmp_wire.{specs.declared.report.RecordType.RecordType}
use Rattle.pim_model.{specs.{Querier.{group_record_due, lower_group, lower_sources, lowered, source_record_due}, Records.{apply_record, GroupRecord, Member, group_expired, is_at_group, is_no_record, members_of, put_member, record_of, source_expired, with_members, with_record, with_repeats_of_rows}, State.State, Tables.{Table, change_row, drop_at, drop_where, put, row_at}}}
use Rattle.law_settled.{proofs.{RowLaws.{row_change_away, row_drop_away, row_put, row_put_away}, RecordLaws.{MemberSo, NewSo, RecordSo, applied_so, group_expired_so, source_expired_so}, ListLaws.{by_cond, each_map, each_more, each_passing}, FineTables.{Fine, fine_drop_at, fine_dropped, fine_fold_each, fine_map, fine_more, fine_put, fine_replaced, good_row}}}
use Rattle.law_streams.{proofs.{CausesAsks.{Before, GroupAsked, IsAsked, JoinAsked, RowsAsked, SourceAsked, UpTo, ends_more}, Flows.{is_timed, is_timed_row}}}

-- ---- ends

never_more : (P : ℕ → Type 0) (end : Option ℕ) (never never' : Type 0) → (never → never') → UpTo never P end
    → UpTo never' P end
never_more P end never never' none f = ends_more P P end never never' none (λ now h. h) f

to_the_lower : (never : Type 0) (P : ℕ → Type 0) (end : ℕ) (o : Option ℕ) → UpTo never P o
    → UpTo never P (lowered end o)
to_the_lower never P end o f = grind arith

-- keys of other groups, or of other interfaces
apart : (i g : ℕ) (k : Key) → is_at_group i g k ≡ false → star_key i g ≡ star_key (iface_in k) (group_in k) → ⊥
apart i g k out e = grind arith

-- ---- a record

module _ (A : ℕ → ℕ → ℕ → ℕ → Type 0) (i g : ℕ) where
  -- a source is excluded only while the group timer runs
  abbrev Never : Bool → Type 0
  Never timed = timed ≡ true

  abbrev Source : ℕ → ℕ → Type 0
  Source src end = Before (A i g src) end

  abbrev Group : ℕ → Type 0
  Group end = Before (λ now. (src : ℕ) → A i g src now) end

  one_of_all : (src end : ℕ) → Group end → Source src end
  one_of_all src end h now e = h now e src

  abbrev MemberAsked : Type 0 → Member → Type 0
  MemberAsked never m = MemberSo Never Source Group never m

  abbrev Members : Type 0 → List Member → Type 0
  Members never ms = AllByRecursion (MemberAsked never) ms

  abbrev pub Whole : GroupRecord → Type 0
  Whole r = RecordSo Never Source Group r

  abbrev pub AsksUntil : ℕ → RecordType → List ℕ → Type 0
  AsksUntil full type sources = NewSo Never Source Group full type sources

  pub applied_asked : (full : ℕ) (sources : List ℕ) (r : GroupRecord) (type : RecordType) → AsksUntil full type sources
      → Whole r → Whole (apply_record full r type sources).0
  applied_asked = applied_so Never Source Group one_of_all (λ end h. refl) (λ src end h. refl)

  abbrev Timed : State → Type 0
  Timed s = is_timed s.group_records i g ≡ true

  members_more : (never never' : Type 0) → (never → never') → (ms : List Member) → Members never ms → Members never' ms
  members_more never never' more ms f = grind (arith, each_more, never_more)

  timer_is : (o : Option GroupRecordRow) → is_some (option_and_then (λ (r : GroupRecordRow). r.end) o) ≡ is_timed_row o
  timer_is o = grind arith

  group_asked : (t : Table GroupRecordRow) → Fine (GroupAsked A) t → (o : Option GroupRecordRow)
      → row_at t (star_key i g) ≡ o
      → UpTo (Unit {0}) (λ now. (src : ℕ) → A i g src now) (option_and_then (λ (r : GroupRecordRow). r.end) o)
  group_asked t f o there = grind (arith, good_row)

  as_member : (s : State) (e : Key × SourceRecordRow) → SourceAsked A s.group_records e × (is_at_group i g e.0 ≡ true)
      → UpTo (Timed s) (A i g (source_in e.0)) (e.1).end
  as_member s e h = grind arith

  pub record_timed : (s : State) → is_some (record_of s i g).timer ≡ is_timed s.group_records i g
  unfolding record_of
  record_timed s = timer_is (row_at s.group_records (star_key i g))

  pub record_asked : (s : State) → IsAsked A s → Whole (record_of s i g)
  unfolding record_of members_of
  record_asked s f =
      let row : Option GroupRecordRow = row_at s.group_records (star_key i g) in
      let entries : Table SourceRecordRow = filter (λ e. is_at_group i g e.0) s.source_records in
      let as_members : List Member =
      map (λ (e : Key × SourceRecordRow). let m : Member = (source_in e.0, (e.1).end) in m) entries in
      record {
        timer = group_asked s.group_records f.groups row refl;
        members = members_more (Timed s) _ (λ on. timer_is row ∙ on) as_members
            (each_map (λ e. SourceAsked A s.group_records e × (is_at_group i g e.0 ≡ true)) (MemberAsked (Timed s))
            (λ e. (source_in e.0, (e.1).end)) (as_member s) entries
            (each_passing (SourceAsked A s.group_records) (λ e. is_at_group i g e.0) s.source_records
            (f.sources).each));
      }

  -- ---- a record that is written

  -- the sources of other groups and interfaces
  abbrev Elsewhere : Table GroupRecordRow → Key × SourceRecordRow → Type 0
  Elsewhere groups e = is_at_group i g e.0 ≡ false → SourceAsked A groups e

  -- they don't see the group's row
  abbrev AgreesElsewhere : Table GroupRecordRow → Table GroupRecordRow → Type 0
  AgreesElsewhere t u = (q : Key) → (star_key i g ≡ q → ⊥) → row_at u q ≡ row_at t q

  elsewhere : (t u : Table GroupRecordRow) → AgreesElsewhere t u → (e : Key × SourceRecordRow) → Elsewhere t e
      → Elsewhere u e
  elsewhere t u same e f out = grind (arith, never_more, is_timed_row, apart)

  all_elsewhere : (s : State) (u : Table GroupRecordRow) → AgreesElsewhere s.group_records u → IsAsked A s
      → Fine (Elsewhere u) s.source_records
  all_elsewhere s u same f = grind (arith, fine_more, elsewhere)

  members_written : (groups : Table GroupRecordRow) (sources : Table SourceRecordRow) (ms : List Member)
      → Fine (Elsewhere groups) sources → Members (is_timed groups i g ≡ true) ms
      → Fine (SourceAsked A groups) (fold (put_member i g) (drop_where (is_at_group i g) sources) ms)
  members_written groups sources ms others members =
      fine_fold_each (SourceAsked A groups) (MemberAsked (is_timed groups i g ≡ true)) (put_member i g)
      (λ t m new f. fine_put (SourceAsked A groups) t (source_key i g m.0) (record { end = m.1 }) new f) ms members
      (drop_where (is_at_group i g) sources)
      (fine_dropped (Elsewhere groups) (SourceAsked A groups) (is_at_group i g) (λ e f out. f out) sources others)

  no_members : (never : Type 0) (timer : Option ℕ) (ms : List Member)
      → is_no_record (record { timer = timer; members = ms }) ≡ true → Members never ms
  no_members never timer ms e = grind arith

  with_members_asked : (s : State) (r : GroupRecord) → Fine (JoinAsked A) s.downstream
      → Fine (GroupAsked A) s.group_records → Fine (Elsewhere s.group_records) s.source_records
      → Members (Timed s) r.members → IsAsked A (with_members s i g r)
  unfolding with_members with_repeats_of_rows
  with_members_asked s r joins groups others members = go (is_no_record r) refl
    where
      dropped : Table GroupRecordRow
      dropped = drop_at s.group_records (star_key i g)

      go : (b : Bool) → is_no_record r ≡ b → RowsAsked A (record {
        downstream = s.downstream;
        groups = cond b dropped s.group_records;
        sources = fold (put_member i g) (drop_where (is_at_group i g) s.source_records) r.members;
      })
      go true e = record {
        joins = joins;
        groups = fine_drop_at (GroupAsked A) s.group_records (star_key i g) groups;
        sources = members_written dropped s.source_records r.members
            (fine_more (Elsewhere s.group_records) (Elsewhere dropped)
            (elsewhere s.group_records dropped (λ q away. row_drop_away (star_key i g) q away s.group_records))
            s.source_records others) (no_members _ r.timer r.members e);
      }
      go false e = record {
        joins = joins;
        groups = groups;
        sources = members_written s.group_records s.source_records r.members others members;
      }

  pub with_record_asked : (s : State) (r : GroupRecord) → IsAsked A s → Whole r → IsAsked A (with_record s i g r)
  unfolding with_record
  with_record_asked s r f whole =
      let row : GroupRecordRow = record { end = r.timer } in
      let after : Table GroupRecordRow = put s.group_records (star_key i g) row in
      with_members_asked (record s { group_records = after }) r f.joins
      (fine_put (GroupAsked A) s.group_records (star_key i g) row whole.timer f.groups)
      (all_elsewhere s after (λ q away. row_put_away (star_key i g) q away row s.group_records) f)
      (members_more (is_some r.timer ≡ true) (is_timed after i g ≡ true)
      (λ on. ap is_timed_row (row_put (star_key i g) row s.group_records) ∙ on) r.members whole.members)

  -- ---- the timers' ends

  ended : (e r : GroupRecordRow) → Some (let row : GroupRecordRow = record { end = None } in row) ≡ Some r
      → GroupAsked A (star_key i g, r)
  ended e r is = cc

  -- in INCLUDE only sources are left whose timers run
  of_expired : (now : ℕ) (never : Type 0) (r : GroupRecord) → Whole r → Members never (group_expired now r).members
  unfolding group_expired
  of_expired now never r f =
      members_more (false ≡ true) never (λ on. let off : false ≡ true = on in cc) _
      (group_expired_so Never Source Group one_of_all (λ end h. refl) (λ src end h. refl) now r f).members

  pub group_due_asked : (s : State) → IsAsked A s → IsAsked A (group_record_due s i g)
  unfolding group_record_due
  group_due_asked s f =
      let none : GroupRecordRow → Option GroupRecordRow = λ old. Some (record { end = None }) in
      let after : Table GroupRecordRow = change_row none (star_key i g) s.group_records in
      with_members_asked (record s { group_records = after }) (group_expired s.present (record_of s i g)) f.joins
      (fine_replaced (GroupAsked A) (Some (record { end = None })) (star_key i g) (λ e r is h. ended e r is)
      s.group_records f.groups)
      (all_elsewhere s after (λ q away. row_change_away (star_key i g) q away none s.group_records) f)
      (of_expired s.present (is_timed after i g ≡ true) (record_of s i g) (record_asked s f))

  timer_stays : (src : ℕ) (r : GroupRecord) → (source_expired src r).timer ≡ r.timer
  unfolding source_expired
  timer_stays src r = grind arith

  pub source_due_asked : (s : State) (src : ℕ) → IsAsked A s → IsAsked A (source_record_due s i g src)
  unfolding source_record_due
  source_due_asked s src f =
      let old : GroupRecord = record_of s i g in
      let same : is_some (source_expired src old).timer ≡ is_timed s.group_records i g =
      ap (λ (o : Option ℕ). is_some o) (timer_stays src old) ∙ record_timed s in
      with_members_asked s (source_expired src old) f.joins f.groups
      (all_elsewhere s s.group_records (λ q away. refl) f)
      (members_more (is_some (source_expired src old).timer ≡ true) (Timed s) (λ on. sym same ∙ on) _
      (source_expired_so Never Source Group one_of_all (λ end h. refl) (λ src end h. refl) src old
      (record_asked s f)).members)

-- ---- timers that are lowered

module _ (A : ℕ → ℕ → ℕ → ℕ → Type 0) (s : State) (i g : ℕ) where
  abbrev lowered_group : ℕ → Key × GroupRecordRow → Key × GroupRecordRow
  lowered_group end e =
      cond (same_key (star_key i g) e.0)
      (let p : Key × GroupRecordRow = (e.0, record { end = lowered end (e.1).end }) in p) e

  still_timed : (end : ℕ) (k : Key) (t : Table GroupRecordRow)
      → is_timed_row (row_at (map (lowered_group end) t) k) ≡ is_timed_row (row_at t k)
  unfolding row_at
  still_timed end k [] = refl
  still_timed end k (x ∷ xs) = grind (arith, still_timed end k xs)

  pub lower_group_asked : (end : ℕ) → IsAsked A s → IsAsked A (lower_group s i g end)
  unfolding lower_group
  lower_group_asked end f = record {
    joins = f.joins;
    groups = fine_map (GroupAsked A) (lowered_group end)
        (λ e. by_cond (λ (p : Key × GroupRecordRow). p.0 ≡ e.0) (same_key (star_key i g) e.0) _ e refl refl)
        (λ e h. by_cond (GroupAsked A) (same_key (star_key i g) e.0) (e.0, record { end = lowered end (e.1).end }) e
        (to_the_lower _ _ end (e.1).end h) h) s.group_records f.groups;
    sources = fine_more (SourceAsked A s.group_records) (SourceAsked A (map (lowered_group end) s.group_records))
        (λ e h. never_more _ (e.1).end _ _
        (λ on. still_timed end (star_key (iface_in e.0) (group_in e.0)) s.group_records ∙ on) h)
        s.source_records f.sources;
  }

  pub lower_sources_asked : (sources : List ℕ) (end : ℕ) → IsAsked A s → IsAsked A (lower_sources s i g sources end)
  unfolding lower_sources
  lower_sources_asked sources end f = grind (arith, fine_map, by_cond, to_the_lower)
