-- A record of a report whose group keeps its mode: what it writes is as it was, but for the sources that it moves and
-- the moments at which timers end.
use Rattle.std.{proofs.Common.{◌≡◌, ℕ, ◌&&◌, ◌||◌, Bool, true, false, not, cond, List, [], ◌∷◌, fold, map, Option, Some, None, is_none, is_some, option_map, refl, ap, sym, subst, ◌∙◌, eq-eqb}, specs.List.{cons_option, filter, filter_map, list_any, Sorted.IsStrictlySortedBy}}
use Rattle.igmp_wire.{specs.declared.report.RecordType.RecordType}
use Rattle.pim_types.{specs.{declared.fact.{Key.Key, SourceRecordRow.SourceRecordRow}, Keys.{key_cmp, same_key, source_in, source_key}}, proofs.Keys.equal_keys}
use Rattle.pim_model.{specs.{Records.{SourceState, Absent, Excluded, Included, GroupRecord, Member, apply_record, from_exclude, from_include, source_state_in, is_at_group, is_no_record, kept_or_until, members_of, put_member, record_with}, Tables.{Table, drop_where, has_row, is_among, keys_in, row_at}, Cause.is_including}}
use Rattle.law_settled.{proofs.{ListLaws.either, TableLaws.row_is_there}}
use Rattle.law_events.{specs.Scopes.only_running, proofs.{KeptAlive.with_its_row, Rows.{cut_entry, row_at_cut}, SourceMacros.cut_source}}
use Rattle.pim_filters.{proofs.{Applying.all_of, Merging.source_state_among}}
use Rattle.pim_querier.{specs.Reports.{keeps_others, stays}, proofs.{NamedRecords.{all_among, gone_of, is_member, neither, none_written}, NamedSources.{anew, anew_elsewhere, anew_row, known, known_row, made, row_of, up_anew}, OneSource.{AreSources, rebuilt, member_after, row_after}}}
use Rattle.pim_tables.{proofs.RisingRows.{Above, Up, head_row, up_of_sorted}}

-- ---- tables that are alike

module _ {R : Type 0} (cut : R → R) where
  above_cut : (k : Key) (t : Table R) → Above k t → Above k (map (cut_entry cut) t)
  above_cut k [] above = tt
  above_cut k (e ∷ t) above = (above.0, above_cut k t above.1)

  pub up_cut : (t : Table R) → Up t → Up (map (cut_entry cut) t)
  up_cut [] up = tt
  up_cut (e ∷ t) up = (above_cut e.0 t up.0, up_cut t up.1)

  keys_cut : (t : Table R) → keys_in (map (cut_entry cut) t) ≡ keys_in t
  unfolding keys_in
  keys_cut [] = refl
  keys_cut (e ∷ t) = ap (λ (ks : List Key). e.0 ∷ ks) (keys_cut t)

  pub keys_alike : (t u : Table R) → map (cut_entry cut) t ≡ map (cut_entry cut) u → keys_in t ≡ keys_in u
  keys_alike t u e = sym (keys_cut t) ∙ ap (λ (x : Table R). keys_in x) e ∙ keys_cut u

  pub row_alike : (k : Key) (t u : Table R) → map (cut_entry cut) t ≡ map (cut_entry cut) u
      → option_map cut (row_at t k) ≡ option_map cut (row_at u k)
  row_alike k t u e = sym (row_at_cut cut k t) ∙ ap (λ (x : Table R). row_at x k) e ∙ row_at_cut cut k u

-- ---- states of sources on the same side

abbrev pub side : Option SourceRecordRow → Option SourceRecordRow
side o = option_map cut_source o

included : (full : ℕ) (type : RecordType) (f : SourceState) → is_including type ≡ true → stays type (row_of f) ≡ true
    → side (row_of (Included full)) ≡ side (row_of f)
included full RecordType.IsInclude Absent is e = cc
included full RecordType.IsInclude Excluded is e = cc
included full RecordType.IsInclude (Included end) is e = refl
included full RecordType.Allow Absent is e = cc
included full RecordType.Allow Excluded is e = cc
included full RecordType.Allow (Included end) is e = refl
included full RecordType.ToInclude Absent is e = cc
included full RecordType.ToInclude Excluded is e = cc
included full RecordType.ToInclude (Included end) is e = refl
included full RecordType.IsExclude f is e = cc
included full RecordType.ToExclude f is e = cc
included full RecordType.Block f is e = cc

kept : (type : RecordType) (f : SourceState) (end : ℕ) → stays type (row_of f) ≡ true → kept_or_until end f ≡ f
kept type Absent end e = cc
kept type Excluded end e = refl
kept type (Included moment) end e = refl

gone_row : (f : SourceState) → row_of f ≡ None → f ≡ Absent
gone_row Absent e = refl
gone_row Excluded e = cc
gone_row (Included end) e = cc

-- ---- how the sources fare that a record doesn't move

module _ (i g : ℕ) (t : Table SourceRecordRow) where
  -- those that it names stay on their sides, and those that it would delete aren't there
  pub record Fares (moved : Key → Bool) (type : RecordType) (names : List ℕ) : Type 0 where
    pub stay : (src : ℕ) → moved (source_key i g src) ≡ false → is_among src names ≡ true
        → stays type (row_at t (source_key i g src)) ≡ true
    pub none : (src : ℕ) → moved (source_key i g src) ≡ false → keeps_others type ≡ false → is_among src names ≡ false
        → row_at t (source_key i g src) ≡ None

pub own_here : (i g n : ℕ) → is_at_group i g (source_key i g n) ≡ true
own_here i g n = rw (eq-eqb i i refl, eq-eqb g g refl) refl

-- ---- rows that are there still

module _ {R : Type 0} where
  later_there : (k : Key) (x : Key × R) (xs : Table R) → has_row xs k ≡ true → has_row (x ∷ xs) k ≡ true
  unfolding has_row row_at
  later_there k x xs there = go (same_key k x.0)
    where
      go : (b : Bool) → is_some (cond b (Some x.1) (row_at xs k)) ≡ true
      go true = refl
      go false = there

  there_at : (p : Key → Bool) (k : Key) (xs : Table R) → p k ≡ true → has_row xs k ≡ true
      → list_any (λ (x : Key × R). p x.0) xs ≡ true
  there_at p k xs here some =
      with_its_row k xs some (λ r at. row_is_there (λ x. p x.0) k xs r here at)

  pub any_kept : (p : Key → Bool) (u xs : Table R)
      → ((k : Key) → p k ≡ true → has_row xs k ≡ true → has_row u k ≡ true)
      → list_any (λ (x : Key × R). p x.0) xs ≡ true → list_any (λ (x : Key × R). p x.0) u ≡ true
  unfolding has_row
  any_kept p u [] keep e = cc
  any_kept p u (x ∷ xs) keep e =
      either (p x.0) (list_any (λ (y : Key × R). p y.0) xs)
      (λ here. there_at p x.0 u here (keep x.0 here (ap (λ (o : Option R). is_some o) (head_row x xs))))
      (λ rest. any_kept p u xs (λ k passes there. keep k passes (later_there k x xs there)) rest) e

module _ (i g : ℕ) (t : Table SourceRecordRow) (rise : IsStrictlySortedBy key_cmp (keys_in t)) (under : AreSources t) where
  abbrev up : Up t
  up = up_of_sorted t rise

  abbrev whole : List Member
  whole = known i g t

  abbrev source_state : ℕ → SourceState
  source_state src = source_state_among whole src

  abbrev own : ℕ → Key
  own src = source_key i g src

  abbrev pub written : List Member → Table SourceRecordRow
  written ms = fold (put_member i g) (drop_where (is_at_group i g) t) ms

  -- What is written of the group: a source that isn't moved has a row on the same side, and the group's timer runs as
  -- before; where that doesn't run no source goes.
  pub record IsMoved (moved : Key → Bool) (timer : Option ℕ) (a : GroupRecord) : Type 0 where
    pub rows : (k : Key) → moved k ≡ false → side (row_at (written a.members) k) ≡ side (row_at t k)
    pub runs : only_running a.timer ≡ only_running timer
    pub rising : Up (written a.members)
    pub keeps : (k : Key) → (is_at_group i g k ≡ true → is_some timer ≡ false) → has_row t k ≡ true
        → has_row (written a.members) k ≡ true

  module _ (moved : Key → Bool) (timer end : Option ℕ) (then : ℕ → SourceState) (all : List ℕ)
      (told : (src : ℕ) → is_among src all ≡ false → then src ≡ Absent)
      (alike : (src : ℕ) → moved (own src) ≡ false → side (row_of (then src)) ≡ side (row_of (source_state src)))
      (runs : only_running end ≡ only_running timer)
      (left : is_some timer ≡ false → (src : ℕ) → is_some (row_of (source_state src)) ≡ true
      → is_some (row_of (then src)) ≡ true) where
    abbrev new : Table SourceRecordRow
    new = anew i g t up under then all told

    each : (k : Key) (b : Bool) → same_key (own (source_in k)) k ≡ b → moved k ≡ false
        → side (row_at new k) ≡ side (row_at t k)
    each k true is =
        subst (λ (q : Key). moved q ≡ false → side (row_at new q) ≡ side (row_at t q))
        (equal_keys (own (source_in k)) k is)
        (λ off. ap side (anew_row i g t up under then all told (source_in k)) ∙ alike (source_in k) off
        ∙ sym (ap side (known_row i g (source_in k) t under)))
    each k false is = λ off. ap side (anew_elsewhere i g t up under then all told k is)

    stay : (k : Key) (b : Bool) → same_key (own (source_in k)) k ≡ b
        → (is_at_group i g k ≡ true → is_some timer ≡ false) → has_row t k ≡ true → has_row new k ≡ true
    unfolding has_row
    stay k true is =
        subst (λ (q : Key). (is_at_group i g q ≡ true → is_some timer ≡ false) → is_some (row_at t q) ≡ true
        → is_some (row_at new q) ≡ true) (equal_keys (own (source_in k)) k is)
        (λ off there. ap (λ (o : Option SourceRecordRow). is_some o)
        (anew_row i g t up under then all told (source_in k))
        ∙ left (off (own_here i g (source_in k))) (source_in k)
        (sym (ap (λ (o : Option SourceRecordRow). is_some o) (known_row i g (source_in k) t under)) ∙ there))
    stay k false is = λ off there.
        ap (λ (o : Option SourceRecordRow). is_some o) (anew_elsewhere i g t up under then all told k is) ∙ there

    made_moved : IsMoved moved timer (record { timer = end; members = made then all })
    made_moved = record {
      rows = λ k. each k (same_key (own (source_in k)) k) refl;
      runs = runs;
      rising = up_anew i g t up under then all told;
      keeps = λ k. stay k (same_key (own (source_in k)) k) refl;
    }

  module _ (full : ℕ) (names : List ℕ) (moved : Key → Bool) where
    abbrev Fare : RecordType → Type 0
    Fare type = Fares i g t moved type names

    stay_source_state : (type : RecordType) → Fare type → (src : ℕ) → moved (own src) ≡ false → is_among src names ≡ true
        → stays type (row_of (source_state src)) ≡ true
    stay_source_state type fare src off is =
        subst (λ (o : Option SourceRecordRow). stays type o ≡ true) (known_row i g src t under) (fare.stay src off is)

    none_source_state : (type : RecordType) → keeps_others type ≡ false → Fare type → (src : ℕ) → moved (own src) ≡ false
        → is_among src names ≡ false → source_state src ≡ Absent
    none_source_state type deletes fare src off is =
        gone_row (source_state src) (sym (known_row i g src t under) ∙ fare.none src off deletes is)

    -- ---- the named ones fare as told, and the others as before

    abbrev picked : (ℕ → SourceState) → ℕ → SourceState
    picked then src = cond (is_among src names) (then src) (source_state src)

    module _ (timer end : Option ℕ) (then : ℕ → SourceState)
        (alike : (src : ℕ) → moved (own src) ≡ false → is_among src names ≡ true
        → side (row_of (then src)) ≡ side (row_of (source_state src)))
        (runs : only_running end ≡ only_running timer)
        (left : is_some timer ≡ false → (src : ℕ) → is_some (row_of (source_state src)) ≡ true
        → is_some (row_of (then src)) ≡ true) where
      alike_by : (src : ℕ) (b : Bool) → is_among src names ≡ b → moved (own src) ≡ false
          → side (row_of (cond b (then src) (source_state src))) ≡ side (row_of (source_state src))
      alike_by src true is off = alike src off is
      alike_by src false is off = refl

      left_by : (src : ℕ) (b : Bool) → is_some timer ≡ false → is_some (row_of (source_state src)) ≡ true
          → is_some (row_of (cond b (then src) (source_state src))) ≡ true
      left_by src true none there = left none src there
      left_by src false none there = there

      told : (src : ℕ) → is_among src (all_of whole names) ≡ false → picked then src ≡ Absent
      told src is =
          let none = neither (is_member (source_state src)) (is_among src names) (sym (all_among src whole names) ∙ is) in
          ap (λ (b : Bool). cond b (then src) (source_state src)) none.1 ∙ gone_of (source_state src) none.0

      picked_moved : IsMoved moved timer (record { timer = end; members = made (picked then) (all_of whole names) })
      picked_moved =
          made_moved moved timer end (picked then) (all_of whole names) told
          (λ src off. alike_by src (is_among src names) refl off) runs
          (λ none src there. left_by src (is_among src names) none there)

    include_moved : (type : RecordType) (timer end : Option ℕ) → is_including type ≡ true
        → only_running end ≡ only_running timer → Fare type
        → IsMoved moved timer (record { timer = end; members = made (picked (λ src. Included full)) (all_of whole names) })
    include_moved type timer end of runs fare =
        picked_moved timer end (λ src. Included full)
        (λ src off is. included full type (source_state src) of (stay_source_state type fare src off is)) runs (λ none src there. refl)

    runs_not : {P : Type 0} (end : ℕ) → is_some (Some end) ≡ false → P
    runs_not end e = cc

    block_moved : (end : ℕ) → Fare RecordType.Block
        → IsMoved moved (Some end) (record {
          timer = Some end;
          members = made (picked (λ src. kept_or_until end (source_state src))) (all_of whole names);
        })
    block_moved end fare =
        picked_moved (Some end) (Some end) (λ src. kept_or_until end (source_state src))
        (λ src off is. ap (λ (f : SourceState). side (row_of f))
        (kept RecordType.Block (source_state src) end (stay_source_state RecordType.Block fare src off is))) refl
        (λ none. runs_not end none)

    -- ---- those that aren't named go

    exclude_by : (type : RecordType) (moment : ℕ) → keeps_others type ≡ false → Fare type → (src : ℕ) (b : Bool)
        → is_among src names ≡ b → moved (own src) ≡ false
        → side (row_of (cond b (kept_or_until moment (source_state src)) Absent)) ≡ side (row_of (source_state src))
    exclude_by type moment deletes fare src true is off =
        ap (λ (f : SourceState). side (row_of f)) (kept type (source_state src) moment (stay_source_state type fare src off is))
    exclude_by type moment deletes fare src false is off =
        ap (λ (f : SourceState). side (row_of f)) (sym (none_source_state type deletes fare src off is))

    exclude_told : (moment src : ℕ) → is_among src (all_of whole names) ≡ false
        → cond (is_among src names) (kept_or_until moment (source_state src)) Absent ≡ Absent
    exclude_told moment src is =
        ap (λ (b : Bool). cond b (kept_or_until moment (source_state src)) Absent)
        (neither (is_member (source_state src)) (is_among src names) (sym (all_among src whole names) ∙ is)).1

    exclude_moved : (type : RecordType) (moment end : ℕ) → keeps_others type ≡ false → Fare type
        → IsMoved moved (Some end) (record {
          timer = Some full;
          members = made (λ src. cond (is_among src names) (kept_or_until moment (source_state src)) Absent) (all_of whole names);
        })
    exclude_moved type moment end deletes fare =
        made_moved moved (Some end) (Some full) (λ src. cond (is_among src names) (kept_or_until moment (source_state src)) Absent)
        (all_of whole names) (exclude_told moment)
        (λ src off. exclude_by type moment deletes fare src (is_among src names) refl off) refl
        (λ none. runs_not end none)

    -- ---- nothing is written anew

    as_members : (xs : Table SourceRecordRow) → filter_map (member_after i g (λ e. Some e.1)) xs ≡ members_of xs
    unfolding members_of
    as_members [] = refl
    as_members (e ∷ xs) = ap (λ (ms : List Member). (source_in e.0, (e.1).end) ∷ ms) (as_members xs)

    as_step : (e : Key × SourceRecordRow) (xs ys : Table SourceRecordRow) (b : Bool) → ys ≡ xs
        → cons_option (cond b (let o : Option (Key × SourceRecordRow) = Some (e.0, e.1) in o) (Some e)) ys ≡ e ∷ xs
    as_step e xs ys true same = ap (λ (u : Table SourceRecordRow). e ∷ u) same
    as_step e xs ys false same = ap (λ (u : Table SourceRecordRow). e ∷ u) same

    as_rows : (xs : Table SourceRecordRow) → filter_map (row_after i g (λ e. Some e.1)) xs ≡ xs
    as_rows [] = refl
    as_rows (e ∷ xs) =
        as_step e xs (filter_map (row_after i g (λ e. Some e.1)) xs) (is_at_group i g e.0) (as_rows xs)

    same_written : written whole ≡ t
    same_written =
        ap written (sym (as_members (filter (λ e. is_at_group i g e.0) t)))
        ∙ rebuilt i g (λ e. Some e.1) t rise under ∙ as_rows t

    same_moved : IsMoved moved None (record { timer = None; members = whole })
    same_moved = record {
      rows = λ k off. ap (λ (u : Table SourceRecordRow). side (row_at u k)) same_written;
      runs = refl;
      rising = subst (λ (u : Table SourceRecordRow). Up u) (sym same_written) up;
      keeps = λ k off there. ap (λ (u : Table SourceRecordRow). has_row u k) same_written ∙ there;
    }

    -- ---- what a record makes of the group

    abbrev pub applied : Option ℕ → RecordType → GroupRecord
    applied timer type = (apply_record full (let r : GroupRecord = record { timer = timer; members = whole } in r) type names).0

    pub applied_moved : (timer : Option ℕ) (type : RecordType) → (is_some timer || keeps_others type) ≡ true → Fare type
        → IsMoved moved timer (applied timer type)
    unfolding apply_record from_include from_exclude record_with source_state_in
    applied_moved None RecordType.IsInclude mode fare = include_moved RecordType.IsInclude None None refl refl fare
    applied_moved None RecordType.Allow mode fare = include_moved RecordType.Allow None None refl refl fare
    applied_moved None RecordType.ToInclude mode fare = include_moved RecordType.ToInclude None None refl refl fare
    applied_moved None RecordType.Block mode fare = same_moved
    applied_moved None RecordType.IsExclude mode fare = cc
    applied_moved None RecordType.ToExclude mode fare = cc
    applied_moved (Some end) RecordType.IsInclude mode fare =
        include_moved RecordType.IsInclude (Some end) (Some end) refl refl fare
    applied_moved (Some end) RecordType.Allow mode fare =
        include_moved RecordType.Allow (Some end) (Some end) refl refl fare
    applied_moved (Some end) RecordType.ToInclude mode fare =
        include_moved RecordType.ToInclude (Some end) (Some end) refl refl fare
    applied_moved (Some end) RecordType.Block mode fare = block_moved end fare
    applied_moved (Some end) RecordType.IsExclude mode fare = exclude_moved RecordType.IsExclude full end refl fare
    applied_moved (Some end) RecordType.ToExclude mode fare = exclude_moved RecordType.ToExclude end end refl fare

  -- ---- it is a record still

  none_running : (o : Option ℕ) → is_none (only_running o) ≡ is_none o
  none_running None = refl
  none_running (Some end) = refl

  abbrev any_here : Table SourceRecordRow → Bool
  any_here u = list_any (λ (e : Key × SourceRecordRow). is_at_group i g e.0) u

  not_none : (moved : Key → Bool) (timer : Option ℕ) (a : GroupRecord) → IsMoved moved timer a
      → (is_some timer || any_here t) ≡ true → (is_none timer && not (any_here (written a.members))) ≡ false
  not_none moved None a is some =
      ap not (any_kept (is_at_group i g) (written a.members) t (λ k here there. is.keeps k (λ h. refl) there) some)
  not_none moved (Some end) a is some = refl

  pub is_left : (moved : Key → Bool) (timer : Option ℕ) (a : GroupRecord) → IsMoved moved timer a
      → (is_some timer || any_here t) ≡ true → is_no_record a ≡ false
  is_left moved timer a is some =
      (λ j. (sym (none_running a.timer) ∙ ap (λ (o : Option ℕ). is_none o) is.runs ∙ none_running timer) j
      && none_written i g a.members t j)
      ∙ not_none moved timer a is some
