-- A report whose records renew their groups: it keeps their modes, moves no source, and sets their timers.
use Rattle.std.{proofs.{Common.{◌≡◌, ◌&&◌, ◌||◌, ◌+◌, ◌++◌, ◌∷◌, ℕ, Bool, List, [], None, Option, Some, ap, cond, false, filter, is_some, map, not, option_and_then, refl, sym, true, ◌∙◌}}, specs.{Cmp.{first_so, second_so}, List.{AllByRecursion, flat_map, list_all, list_any}, Prelude.{if◌then◌else◌}}}
use Rattle.pim_ip.{specs.Ipv4.is_source_specific}
use Rattle.igmp_wire.{specs.{Values.Record, declared.report.RecordType.RecordType}}
use Rattle.pim_types.{specs.{declared.fact.{GroupRecordRow.GroupRecordRow, Key.Key, SourceRecordRow.SourceRecordRow}, Keys.{same_key, source_key, star_key}}}
use Rattle.pim_model.{specs.{Messages.Message, Querier.{each_in_turn, group_end, group_membership_interval, is_excluding, is_querier, is_sending, is_skipped, query_interval, record_seen, report_seen, robustness}, Records.{GroupRecord, apply_record, from_exclude, is_at_group, members_of, record_of, record_with, with_members, with_record, with_repeats_of_rows}, State.State, Tables.{Table, ascending, drop_where, has_row, is_empty_list, put, row_at}}}
use Rattle.law_settled.{proofs.{ListLaws.{each_more, each_of_list}, RowLaws.row_put}}
use Rattle.pim_tables.{proofs.Lookups.row_at-put}
use Rattle.pim_querier.{specs.Reports.{all_keep_modes, keeps_mode, keeps_others, moved_by, moved_others, moved_sources, stays}}
use Rattle.pim_plan.{specs.Renewing.{all_renew, excludes_none, group_renewed, groups_renewed, is_current_exclude, renews}}

-- ---- lists

module _ {X : Type 0} (p q : X → Bool) (keeps : (x : X) → p x ≡ false → q x ≡ true) where
  kept_step : (x : X) (xs : List X) (b c d : Bool) → (b || c) ≡ false → (b ≡ false → d ≡ true)
      → (c ≡ false → filter q xs ≡ xs) → cond d (x ∷ filter q xs) (filter q xs) ≡ x ∷ xs
  kept_step x xs false false true e f ih = ap (λ (ys : List X). x ∷ ys) (ih refl)
  kept_step x xs false false false e f ih = cc (f refl)
  kept_step x xs false true d e f ih = cc
  kept_step x xs true c d e f ih = cc

  -- all pass where none fails
  all_kept : (xs : List X) → list_any p xs ≡ false → filter q xs ≡ xs
  all_kept [] e = refl
  all_kept (x ∷ xs) e = kept_step x xs (p x) (list_any p xs) (q x) e (keeps x) (all_kept xs)

module _ {X : Type 0} (p : X → Bool) where
  none_step : (x : X) (xs : List X) (b c : Bool) → (b || c) ≡ false → (c ≡ false → filter p xs ≡ [])
      → cond b (x ∷ filter p xs) (filter p xs) ≡ []
  none_step x xs false false e ih = ih refl
  none_step x xs false true e ih = cc
  none_step x xs true c e ih = cc

  none_found : (xs : List X) → list_any p xs ≡ false → filter p xs ≡ []
  none_found [] e = refl
  none_found (x ∷ xs) e = none_step x xs (p x) (list_any p xs) e (none_found xs)

so_false : (b : Bool) → not b ≡ true → b ≡ false
so_false false e = refl
so_false true e = cc

unless : (b c : Bool) → b ≡ false → not (b && c) ≡ true
unless false c e = refl
unless true c e = cc

so_not : (b : Bool) → b ≡ false → not b ≡ true
so_not false e = refl
so_not true e = cc

empty_is : {X : Type 0} (xs : List X) → is_empty_list xs ≡ true → xs ≡ []
empty_is [] e = refl
empty_is (x ∷ xs) e = cc

type_is : (type : RecordType) → is_current_exclude type ≡ true → type ≡ RecordType.IsExclude
type_is RecordType.IsExclude e = refl
type_is RecordType.IsInclude e = cc
type_is RecordType.ToInclude e = cc
type_is RecordType.ToExclude e = cc
type_is RecordType.Allow e = cc
type_is RecordType.Block e = cc

-- ---- a record

module _ (s : State) (i : ℕ) (r : Record) (is : renews s i r ≡ true) where
  abbrev g : ℕ
  g = r.group

  excluding : excludes_none r ≡ true
  unfolding renews
  excluding = first_so (excludes_none r) _ (first_so (excludes_none r && is_some (group_end s i r.group)) _
      (first_so _ (not (list_any (is_sending i r.group) s.sendings)) is))

  timed : is_some (group_end s i g) ≡ true
  unfolding renews
  timed = second_so (excludes_none r) _ (first_so (excludes_none r && is_some (group_end s i r.group)) _
      (first_so _ (not (list_any (is_sending i r.group) s.sendings)) is))

  no_source : list_any (λ e. is_at_group i g e.0) s.source_records ≡ false
  unfolding renews
  no_source = so_false _ (second_so (excludes_none r && is_some (group_end s i r.group)) _
      (first_so _ (not (list_any (is_sending i r.group) s.sendings)) is))

  no_sending : list_any (is_sending i g) s.sendings ≡ false
  unfolding renews
  no_sending = so_false _ (second_so _ (not (list_any (is_sending i r.group) s.sendings)) is)

  type_so : r.type ≡ RecordType.IsExclude
  unfolding excludes_none
  type_so = type_is r.type (first_so (is_current_exclude r.type) _
      (first_so (is_current_exclude r.type && is_empty_list r.sources) _ excluding))

  sources_so : r.sources ≡ []
  unfolding excludes_none
  sources_so = empty_is r.sources (second_so (is_current_exclude r.type) _
      (first_so (is_current_exclude r.type && is_empty_list r.sources) _ excluding))

  taken_too : not (is_skipped r) ≡ true
  unfolding excludes_none
  taken_too = unless (is_source_specific g) (is_excluding r.type)
      (so_false _ (second_so (is_current_exclude r.type && is_empty_list r.sources) _ excluding))

  keeps : keeps_mode s i r ≡ true
  unfolding keeps_mode
  keeps = rw timed refl

  moves_none : moved_by s.source_records i r ≡ []
  moves_none =
      ap (λ (ns : List ℕ). map (source_key i g) (filter (λ src. not (stays r.type (row_at s.source_records (source_key i g src)))) ns)
      ++ moved_others s.source_records i r) sources_so
      ∙ ap (λ (t : RecordType). if keeps_others t then []
      else map (λ (e : Key × SourceRecordRow). e.0) (filter (λ e. is_at_group i g e.0) s.source_records)) type_so
      ∙ ap (map (λ (e : Key × SourceRecordRow). e.0))
      (none_found (λ (e : Key × SourceRecordRow). is_at_group i g e.0) s.source_records no_source)

  module _ (full : ℕ) where
    abbrev row : GroupRecordRow
    row = record { end = Some full }

    abbrev none_left : GroupRecord
    none_left = record { timer = Some full; members = [] }

    others_stay : drop_where (is_at_group i g) s.source_records ≡ s.source_records
    unfolding drop_where
    others_stay = all_kept (λ (e : Key × SourceRecordRow). is_at_group i g e.0) (λ e. not (is_at_group i g e.0))
        (λ e f. so_not _ f) s.source_records no_source

    sendings_stay : (t : Table SourceRecordRow)
        → drop_where (λ k. is_at_group i g k && not (has_row t k)) s.sendings ≡ s.sendings
    unfolding drop_where
    sendings_stay t = all_kept (is_sending i g) (λ e. not (is_at_group i g e.0 && not (has_row t e.0)))
        (λ e f. unless _ _ f) s.sendings no_sending

    has_record : has_row (put s.group_records (star_key i g) row) (star_key i g) ≡ true
    unfolding has_row
    has_record = ap (λ (o : Option GroupRecordRow). is_some o) (row_put (star_key i g) row s.group_records)

    written : with_record s i g none_left ≡ group_renewed i full s r
    unfolding with_record with_members with_repeats_of_rows group_renewed
    written = rw (others_stay, sendings_stay s.source_records, no_sending, has_record) refl

    known : record_of s i g ≡ (let k : GroupRecord = record { timer = group_end s i g; members = [] } in k)
    unfolding record_of members_of
    known =
        ap (λ (t : Table SourceRecordRow). let k : GroupRecord = record { timer = group_end s i g; members = members_of t } in k)
        (none_found (λ (e : Key × SourceRecordRow). is_at_group i g e.0) s.source_records no_source)

    applied_so : (o : Option ℕ) → is_some o ≡ true
        → (let k : GroupRecord = record { timer = o; members = [] } in
        apply_record full k RecordType.IsExclude []) ≡ (none_left, [])
    unfolding apply_record from_exclude record_with ascending
    applied_so (Some end) e = refl
    applied_so None e = cc

    applied : apply_record full (record_of s i g) r.type r.sources ≡ (none_left, [])
    applied =
        (λ j. apply_record full (known j) (type_so j) (sources_so j)) ∙ applied_so (group_end s i g) timed

  seen_so : record_seen i s r ≡ (group_renewed i (s.present + group_membership_interval s i) s r, [])
  unfolding record_seen each_in_turn
  seen_so =
      let full : ℕ = s.present + group_membership_interval s i in
      rw (applied full, written full) (go (is_querier s i) (group_renewed i full s r))
    where
      go : (b : Bool) (t : State) → (let sent : State × List Message = (t, []) in if b then sent else sent)
          ≡ (let sent : State × List Message = (t, []) in sent)
      go true t = refl
      go false t = refl

-- ---- a record after another

put_ends : (b : Bool) (full : ℕ) (o : Option GroupRecordRow)
    → is_some (option_and_then (λ (r : GroupRecordRow). r.end) o) ≡ true
    → is_some (option_and_then (λ (r : GroupRecordRow). r.end) (cond b (Some (record { end = Some full })) o)) ≡ true
put_ends true full o e = refl
put_ends false full o e = e

renews_still : (s : State) (i full : ℕ) (first r : Record) → renews s i r ≡ true
    → renews (group_renewed i full s first) i r ≡ true
unfolding renews group_renewed
renews_still s i full first r is =
    let t : Table GroupRecordRow = put s.group_records (star_key i first.group) (record { end = Some full }) in
    let ends : is_some (option_and_then (λ (x : GroupRecordRow). x.end) (row_at t (star_key i r.group))) ≡ true =
    ap (λ (o : Option GroupRecordRow). is_some (option_and_then (λ (x : GroupRecordRow). x.end) o))
    (row_at-put (star_key i first.group) (star_key i r.group) s.group_records (record { end = Some full }))
    ∙ put_ends (same_key (star_key i r.group) (star_key i first.group)) full (row_at s.group_records (star_key i r.group))
    (timed s i r is) in
    ap (λ (b : Bool). excludes_none r && b && not (list_any (λ e. is_at_group i r.group e.0) s.source_records)
    && not (list_any (is_sending i r.group) s.sendings)) (ends ∙ sym (timed s i r is)) ∙ is

-- ---- a report

module _ (i : ℕ) where
  all_taken : (s : State) (records : List Record) → AllByRecursion (λ r. renews s i r ≡ true) records
      → each_in_turn (record_seen i) s records
      ≡ (groups_renewed i (s.present + group_membership_interval s i) s records, [])
  unfolding each_in_turn group_renewed groups_renewed group_membership_interval robustness query_interval
  all_taken s [] all = refl
  all_taken s (r ∷ rs) all =
      let full : ℕ = s.present + group_membership_interval s i in
      let t : State = group_renewed i full s r in
      let later = all_taken t rs (each_more _ _ (λ x is. renews_still s i full r x is) rs all.1) in
      rw (seen_so s i r all.0) (rw later refl)

module _ (s : State) (i : ℕ) (records : List Record) (is : all_renew s i records ≡ true) where
  each_renews : AllByRecursion (λ r. renews s i r ≡ true) records
  unfolding all_renew
  each_renews = each_of_list (renews s i) records is

  taken_all : (rs : List Record) → AllByRecursion (λ r. renews s i r ≡ true) rs → filter (λ r. not (is_skipped r)) rs ≡ rs
  taken_all [] all = refl
  taken_all (r ∷ rs) all = rw (taken_too s i r all.0) (ap (λ (xs : List Record). r ∷ xs) (taken_all rs all.1))

  pub renewed_report : report_seen s i records
      ≡ (groups_renewed i (s.present + group_membership_interval s i) s records, [])
  unfolding report_seen
  renewed_report =
      ap (each_in_turn (record_seen i) s) (taken_all records each_renews) ∙ all_taken i s records each_renews

  all_keep : (rs : List Record) → AllByRecursion (λ r. renews s i r ≡ true) rs → list_all (keeps_mode s i) rs ≡ true
  all_keep [] all = refl
  all_keep (r ∷ rs) all = rw (keeps s i r all.0) (all_keep rs all.1)

  pub renewed_keeps_modes : all_keep_modes s i records ≡ true
  unfolding all_keep_modes
  renewed_keeps_modes =
      ap (list_all (keeps_mode s i)) (taken_all records each_renews) ∙ all_keep records each_renews

  none_move : (rs : List Record) → AllByRecursion (λ r. renews s i r ≡ true) rs
      → flat_map (moved_by s.source_records i) rs ≡ []
  none_move [] all = refl
  none_move (r ∷ rs) all = rw (moves_none s i r all.0) (none_move rs all.1)

  pub renewed_moves_none : moved_sources s i records ≡ []
  unfolding moved_sources
  renewed_moves_none =
      ap (flat_map (moved_by s.source_records i)) (taken_all records each_renews) ∙ none_move records each_renews
