-- What the expiry of group timers and source timers changes makes no end by the present.
use Rattle.std.{proofs.{Common.{◌≡◌, ℕ, nat_lt, ◌==◌, Bool, true, false, not, cond, ◌&&◌, ◌||◌, List, [], ◌∷◌, map, fold, filter, Some, None, is_some, refl, sym, ap, ◌∙◌, subst, eqb-true, eq-eqb, arith, rules}, lemmas.Bool.{or_left, or_right}}, specs.{Cmp.{first_so, second_so}, List.list_any, Option.option_map_or}}
use Rattle.pim_types.{specs.{declared.{fact.{GroupRecordRow.GroupRecordRow, Key.Key, SendingRow.SendingRow, SourceRecordRow.SourceRecordRow}, timer.TimerKind.TimerKind}, Keys.{same_key, iface_in, group_in, source_in, source_key, star_key}}, proofs.Keys.{equal_keys, same_key_same}}
use Rattle.pim_model.{specs.{Querier.{group_record_due, source_record_due}, Records.{GroupRecord, Member, group_expired, is_at_group, is_no_record, members_of, put_member, record_of, source_expired, with_members, with_repeats_of_rows}, State.State, Tables.{Table, has_row, same_option, put, drop_where, drop_at, change_row}}}
use Rattle.law_settled.{proofs.{RowLaws.any_of_put, ListLaws.{any_more, any_of_filter, by_cond, either}, TableLaws.{any_of_either, none_passes, any_of_map, any_in_filter}, Ends.{Mark, Ends, Faulty, PartKeeps, counts, shows_row, TableKeeps, shows, Keeps, kept_then, fresh_row, drop_kept, part_same, part_without, rows_kept}, Parts.{GroupRecords, GroupRepeats, Part, Row, Sendings, SourceRecords, SourceRepeats}, DueKept.{Fires, row_replaced}, IgmpKept.{IsSound, still_gone}}, specs.Laws.is_under_source}

-- a member as an entry of the table
abbrev pub entry_of : ℕ → ℕ → Member → Key × SourceRecordRow
entry_of i g p = (source_key i g p.0, record { end = p.1 })

abbrev shows_source : Mark → Key × SourceRecordRow → Bool
shows_source mark e = shows_row (λ (r : SourceRecordRow). r.end) is_under_source mark e

-- what passes after the members were put passes as a member, or did before
module _ (q : Key × SourceRecordRow → Bool) (i g : ℕ) where
  pub any_of_members : (ms : List Member) (t : Table SourceRecordRow) → list_any q (fold (put_member i g) t ms) ≡ true
      → (list_any (λ p. q (entry_of i g p)) ms || list_any q t) ≡ true
  any_of_members [] t e = e
  any_of_members (p ∷ ps) t e =
      grind (arith, any_of_members ps (put t (source_key i g p.0) (record { end = p.1 })) e, either, or_left, or_right, any_of_put)

-- the members show nothing by the timestamp that didn't show before
abbrev MembersKeep : ℕ → State → ℕ → ℕ → List Member → Type 0
MembersKeep m s i g ms =
    (mark : Mark) → counts m mark ≡ true → list_any (λ p. shows_source mark (entry_of i g p)) ms ≡ true
    → shows TimerKind.SourceRecord mark s ≡ true

module _ (m : ℕ) (s : State) (i g : ℕ) where
  repeats_kept : Keeps m s (with_repeats_of_rows s i g)
  unfolding with_repeats_of_rows
  repeats_kept =
      let sendings : Table SendingRow =
      drop_where (λ k. is_at_group i g k && not (has_row s.source_records k)) s.sendings in
      let has_sendings : Bool = list_any (λ (e : Key × SendingRow). is_at_group i g e.0) sendings in
      let one : State = record s { sendings = sendings } in
      let two : State =
      record one { group_repeats = cut GroupRepeats s.group_repeats (has_row s.group_records (star_key i g)) } in
      kept_then m s one _ (rows_kept m s Sendings sendings tt)
      (kept_then m one two _
      (rows_kept m one GroupRepeats _ (cut_kept GroupRepeats s.group_repeats _))
      (rows_kept m two SourceRepeats _ (cut_kept SourceRepeats s.source_repeats has_sendings)))
    where
      cut : (p : Part) → Table (Row p) → Bool → Table (Row p)
      cut p t b = cond b t (drop_at t (star_key i g))

      cut_kept : (p : Part) (t : Table (Row p)) (b : Bool) → PartKeeps m p t (cut p t b)
      cut_kept p t b =
          by_cond (PartKeeps m p t) b t (drop_at t (star_key i g)) (part_same m p t) (part_without m p (star_key i g) t)

module _ (m : ℕ) (s : State) (i g : ℕ) where
  put_back : (ms : List Member) → MembersKeep m s i g ms
      → TableKeeps (λ (r : SourceRecordRow). r.end) is_under_source m s.source_records
      (fold (put_member i g) (drop_where (is_at_group i g) s.source_records) ms)
  put_back ms keeps mark by e =
      either (list_any (λ p. shows_source mark (entry_of i g p)) ms)
      (list_any (shows_source mark) (drop_where (is_at_group i g) s.source_records))
      (keeps mark by)
      (drop_kept (λ (r : SourceRecordRow). r.end) is_under_source m (is_at_group i g) s.source_records mark by)
      (any_of_members (shows_source mark) i g ms (drop_where (is_at_group i g) s.source_records) e)

  members_kept : (r : GroupRecord) → MembersKeep m s i g r.members → Keeps m s (with_members s i g r)
  unfolding with_members
  members_kept r keeps =
      let groups : Table GroupRecordRow =
      cond (is_no_record r) (drop_at s.group_records (star_key i g)) s.group_records in
      let sources : Table SourceRecordRow =
      fold (put_member i g) (drop_where (is_at_group i g) s.source_records) r.members in
      let one : State = record s { group_records = groups } in
      let two : State = record one { source_records = sources } in
      kept_then m s one _
      (rows_kept m s GroupRecords groups
      (by_cond (PartKeeps m GroupRecords s.group_records) (is_no_record r) _ s.group_records
      (part_without m GroupRecords (star_key i g) s.group_records) (part_same m GroupRecords s.group_records)))
      (kept_then m one two _ (rows_kept m one SourceRecords sources (put_back r.members keeps, tt))
      (repeats_kept m two i g))

-- ---- the group timer ends

module _ (m : ℕ) (s : State) (now : s.present ≡ m) (i g : ℕ) where
  timed : State
  timed = record s {
    group_records = change_row (λ (old : GroupRecordRow). Some (record { end = None })) (star_key i g) s.group_records;
  }

  timed_fires : Fires m TimerKind.GroupRecord (star_key i g) s timed
  unfolding timed
  timed_fires =
      row_replaced m s TimerKind.GroupRecord (star_key i g) (record { end = None }) (same_key_same (star_key i g))
      (refl, tt)

  runs_on : Member → Bool
  runs_on p = option_map_or (nat_lt s.present) p.1 false

  later_member : (mark : Mark) → counts m mark ≡ true → (p : Member)
      → (runs_on p && shows_source mark (entry_of i g p)) ≡ true → ⊥
  unfolding runs_on
  later_member mark by p e = grind (arith, runs_on, fresh_row, same_key_same)

  later_members : (ms : List Member) (t : State) → MembersKeep m t i g (filter runs_on ms)
  later_members ms t mark by e = grind (arith, none_passes, runs_on, later_member, any_in_filter)

  expired_members : MembersKeep m timed i g (group_expired s.present (record_of s i g)).members
  unfolding group_expired runs_on
  expired_members = later_members (record_of s i g).members timed

  pub group_record_fires : Fires m TimerKind.GroupRecord (star_key i g) s (group_record_due s i g)
  unfolding group_record_due timed
  group_record_fires =
      let expired : GroupRecord = group_expired s.present (record_of s i g) in
      let after : Keeps m timed (with_members timed i g expired) = members_kept m timed i g expired expired_members in
      record {
        keeps = kept_then m s timed (with_members timed i g expired) timed_fires.keeps after;
        gone =
            still_gone m TimerKind.GroupRecord (star_key i g) timed (with_members timed i g expired) after
            timed_fires.gone;
      }

-- ---- a source timer ends

-- a row of the group shows as the member that it is, unless it is under a key of another kind
module _ (i g : ℕ) where
  pub equal_forms : (e : Key × SourceRecordRow) → is_at_group i g e.0 ≡ true → is_under_source e ≡ true
      → source_key i g (source_in e.0) ≡ e.0
  equal_forms e here good = grind (arith, eqb-true, equal_keys)

  as_member : (mark : Mark) (e : Key × SourceRecordRow)
      → (is_at_group i g e.0 && shows_source mark (entry_of i g (source_in e.0, (e.1).end))) ≡ true
      → (shows_source mark e || shows_source Faulty e) ≡ true
  as_member mark e f = grind (arith, or_left, equal_forms, or_right)

module _ (m : ℕ) (s : State) (sound : IsSound s) (i g : ℕ) where
  group_members : List Member
  group_members = members_of (filter (λ e. is_at_group i g e.0) s.source_records)

  -- what the members of the record show, its rows show
  members_shown : (mark : Mark) → list_any (λ p. shows_source mark (entry_of i g p)) group_members ≡ true
      → shows TimerKind.SourceRecord mark s ≡ true
  unfolding group_members members_of
  members_shown mark e =
      either (list_any (shows_source mark) s.source_records) (list_any (shows_source Faulty) s.source_records) (λ f. f)
      (λ f. absurd (sound.faultless TimerKind.SourceRecord f))
      (any_of_either (shows_source mark) (shows_source Faulty) s.source_records
      (any_more (λ e. is_at_group i g e.0 && shows_source mark (entry_of i g (source_in e.0, (e.1).end)))
      (λ e. shows_source mark e || shows_source Faulty e) (as_member i g mark) s.source_records
      (sym (any_in_filter (λ (e : Key × SourceRecordRow). is_at_group i g e.0)
      (λ e. shows_source mark (entry_of i g (source_in e.0, (e.1).end))) s.source_records)
      ∙ (sym (any_of_map (λ (p : Member). shows_source mark (entry_of i g p))
      (λ (e : Key × SourceRecordRow). let p : Member = (source_in e.0, (e.1).end) in p)
      (filter (λ e. is_at_group i g e.0) s.source_records)) ∙ e))))

abbrev unset : ℕ → Member → Member
unset src p = cond (p.0 == src) (src, None) p

module _ (m : ℕ) (s : State) (sound : IsSound s) (i g src : ℕ) where
  unset_shows : (mark : Mark) → counts m mark ≡ true → (p : Member)
      → shows_source mark (entry_of i g (unset src p)) ≡ true
      → shows_source mark (entry_of i g p) ≡ true
  unset_shows mark by p e = grind arith

  unset_members : MembersKeep m s i g (map (unset src) (group_members m s sound i g))
  unset_members mark by e =
      members_shown m s sound i g mark
      (any_more (λ p. shows_source mark (entry_of i g (unset src p))) (λ p. shows_source mark (entry_of i g p))
      (unset_shows mark by)
      (group_members m s sound i g)
      (sym (any_of_map (λ p. shows_source mark (entry_of i g p)) (unset src) (group_members m s sound i g)) ∙ e))

  left_members : MembersKeep m s i g (filter (λ p. not (p.0 == src)) (group_members m s sound i g))
  left_members mark by e = grind (arith, members_shown, any_of_filter, group_members)

  expired_kept : Keeps m s (with_members s i g (source_expired src (record_of s i g)))
  unfolding source_expired record_of group_members
  expired_kept = go (is_some (record_of s i g).timer)
    where
      go : (b : Bool) → Keeps m s (with_members s i g (cond b
          (record (record_of s i g) { members = map (unset src) (group_members m s sound i g) })
          (record (record_of s i g) { members = filter (λ p. not (p.0 == src)) (group_members m s sound i g) })))
      go true =
          members_kept m s i g (record (record_of s i g) { members = map (unset src) (group_members m s sound i g) })
          unset_members
      go false =
          members_kept m s i g (record
          (record_of s i g) { members = filter (λ p. not (p.0 == src)) (group_members m s sound i g) }) left_members

module _ (m : ℕ) (s : State) (k : Key) (x : ℕ) where
  own_group : is_at_group (iface_in k) (group_in k) k ≡ true
  own_group = rw (eq-eqb (iface_in k) (iface_in k) refl, eq-eqb (group_in k) (group_in k) refl) refl

  no_other : (e : Key × SourceRecordRow)
      → (not (is_at_group (iface_in k) (group_in k) e.0) && shows_source (Ends k x) e) ≡ true → ⊥
  no_other e f =
      let key : k ≡ e.0 = equal_keys k e.0 (first_so (same_key k e.0) (same_option (e.1).end (Some x))
      (second_so (not (is_at_group (iface_in k) (group_in k) e.0)) (shows_source (Ends k x) e) f)) in
      let here : is_at_group (iface_in k) (group_in k) e.0 ≡ true =
      subst (λ (q : Key). is_at_group (iface_in k) (group_in k) q ≡ true) key own_group in
      let out : not (is_at_group (iface_in k) (group_in k) e.0) ≡ true =
      first_so (not (is_at_group (iface_in k) (group_in k) e.0)) (shows_source (Ends k x) e) f in
      cc

  -- a member that shows it is its source
  its_source : (p : Member) → shows_source (Ends k x) (entry_of (iface_in k) (group_in k) p) ≡ true
      → (p.0 == source_in k) ≡ true
  its_source p e =
      let key : k ≡ source_key (iface_in k) (group_in k) p.0 =
      equal_keys k (source_key (iface_in k) (group_in k) p.0)
      (first_so (same_key k (source_key (iface_in k) (group_in k) p.0)) (same_option p.1 (Some x)) e) in
      eq-eqb p.0 (source_in k) (sym (ap (λ (q : Key). source_in q) key))

  not_unset : (p : Member)
      → shows_source (Ends k x) (entry_of (iface_in k) (group_in k) (unset (source_in k) p)) ≡ true → ⊥
  not_unset p e = grind (arith, its_source)

  not_left : (p : Member)
      → (not (p.0 == source_in k) && shows_source (Ends k x) (entry_of (iface_in k) (group_in k) p)) ≡ true → ⊥
  not_left p e = grind (arith, its_source)

  gone_unless : (r : GroupRecord)
      → (list_any (λ p. shows_source (Ends k x) (entry_of (iface_in k) (group_in k) p)) r.members ≡ true → ⊥)
      → shows TimerKind.SourceRecord (Ends k x) (with_members s (iface_in k) (group_in k) r) ≡ true → ⊥
  unfolding with_members with_repeats_of_rows drop_where
  gone_unless r none e =
      either (list_any (λ p. shows_source (Ends k x) (entry_of (iface_in k) (group_in k) p)) r.members)
      (list_any (shows_source (Ends k x)) (drop_where (is_at_group (iface_in k) (group_in k)) s.source_records)) none
      (λ f. none_passes (λ e. not (is_at_group (iface_in k) (group_in k) e.0)
      && shows_source (Ends k x) e) no_other s.source_records
      (sym (any_in_filter (λ (e : Key × SourceRecordRow). not (is_at_group (iface_in k) (group_in k) e.0))
      (shows_source (Ends k x)) s.source_records) ∙ f))
      (any_of_members (shows_source (Ends k x)) (iface_in k) (group_in k) r.members
      (drop_where (is_at_group (iface_in k) (group_in k)) s.source_records) e)

  expired_gone : shows TimerKind.SourceRecord (Ends k x)
      (with_members s (iface_in k) (group_in k) (source_expired (source_in k) (record_of s (iface_in k) (group_in k))))
      ≡ true → ⊥
  unfolding source_expired
  expired_gone = go (is_some (record_of s (iface_in k) (group_in k)).timer) (record_of s (iface_in k) (group_in k))
    where
      go : (b : Bool) (r : GroupRecord)
          → shows TimerKind.SourceRecord (Ends k x) (with_members s (iface_in k) (group_in k) (cond b
          (record r { members = map (unset (source_in k)) r.members })
          (record r { members = filter (λ p. not (p.0 == source_in k)) r.members }))) ≡ true → ⊥
      go true r =
          gone_unless (record r { members = map (unset (source_in k)) r.members })
          (λ f. none_passes (λ p. shows_source (Ends k x) (entry_of (iface_in k) (group_in k) (unset (source_in k) p)))
          not_unset r.members
          (sym (any_of_map (λ p. shows_source (Ends k x) (entry_of (iface_in k) (group_in k) p))
          (unset (source_in k)) r.members) ∙ f))
      go false r =
          gone_unless (record r { members = filter (λ p. not (p.0 == source_in k)) r.members })
          (λ f. none_passes (λ p. not (p.0 == source_in k)
          && shows_source (Ends k x) (entry_of (iface_in k) (group_in k) p)) not_left r.members
          (sym (any_in_filter (λ (p : Member). not (p.0 == source_in k))
          (λ p. shows_source (Ends k x) (entry_of (iface_in k) (group_in k) p)) r.members) ∙ f))

pub source_record_fires : (m : ℕ) (s : State) → IsSound s → (k : Key)
    → Fires m TimerKind.SourceRecord k s (source_record_due s (iface_in k) (group_in k) (source_in k))
unfolding source_record_due
source_record_fires m s sound k = search (rules, expired_kept, expired_gone)
