-- A record that asks for sources that it doesn't name. A query is of those alone whose timers expire late enough, so that
-- the others need not be asked for.
use Rattle.std.{proofs.Common.{◌≡◌, ℕ, ◌==◌, ◌&&◌, ◌||◌, ◌++◌, Bool, true, false, not, nat_lt, cond, List, [], ◌∷◌, fold, map, option_and_then, Option, Some, None, is_some, eqb-true, append-nil, refl, ap, sym, subst, ◌∙◌, arith}, specs.{Cmp.second_so, List.{AllByRecursion, filter, Sorted.IsStrictlySortedBy}, Option.option_map_or, Ordering.nat_cmp, Prelude.if◌then◌else◌, declared.cmp.Ordering.TheVariants.Less}}
use Rattle.igmp_wire.{specs.declared.report.RecordType.RecordType}
use Rattle.pim_types.{specs.{declared.fact.{Key.Key, SendingRow.SendingRow, SourceRecordRow.SourceRecordRow}, Keys.{key_cmp, source_in, source_key}}}
use Rattle.pim_model.{specs.{Messages.Message, Querier.{each_in_turn, exceeds, group_end, last_member_query_time, lower_sources, query_asked, query_end, query_sources, robustness, send_sources, source_end}, Records.{Asked, Excluded, SourceState, Absent, GroupRecord, Member, Included, apply_record, is_at_group, is_running, members_of, put_member, record_of, with_members, with_record, with_repeats_of_rows}, State.State, Tables.{Table, drop_where, is_among, is_empty_list, keys_in, put, row_at}}}
use Rattle.pim_filters.{specs.{Asking.asked_in_order, Members.{IsAscending, member_entries}, Rules.is_asked, declared.member.Member.Member as CodeMember}, proofs.{Applying.{all_of, queries_after}, Merging.source_state_among, Orders.{Rises, Rises-ascending, Rises-from_sorted, none_below, same_rising}}}
use Rattle.pim_querier.{specs.Reports.{AsksAlike, asks_named, keeps_others}, proofs.{NamedRecords.{all_among, among_filter, source_states, gone_of, is_member, members_among, neither, record_made, rises_filtered, told}, NamedSources.{anew_row, known, row_of}, OneSource.AreSources, Reported.numbers_of_rows}}
use Rattle.pim_tables.{proofs.RisingRows.up_of_sorted}

-- TO_IN is the only such record
pub to_include : (type : RecordType) → keeps_others type ≡ true → asks_named type ≡ false → type ≡ RecordType.ToInclude
to_include RecordType.ToInclude keeps others = refl
to_include RecordType.IsInclude keeps others = cc
to_include RecordType.Allow keeps others = cc
to_include RecordType.Block keeps others = cc
to_include RecordType.IsExclude keeps others = cc
to_include RecordType.ToExclude keeps others = cc

-- ---- the members whose timers expire late

module _ (moment : ℕ) where
  abbrev pub late_members : List Member → List Member
  late_members es = filter (λ (m : Member). exceeds moment m.1) es

  -- the timer of a source that fares so expires late
  abbrev pub is_late : SourceState → Bool
  is_late (Included end) = nat_lt moment end
  is_late _ = false

  late_by_end : (end : Option ℕ) → is_late (option_map_or Included end Excluded) ≡ exceeds moment end
  late_by_end None = refl
  late_by_end (Some end) = refl

  running_by_end : (end : Option ℕ) → exceeds moment end ≡ true → is_running (option_map_or Included end Excluded) ≡ true
  running_by_end None e = cc
  running_by_end (Some end) e = refl

  late_step : (src : ℕ) (m : Member) (es : List Member) (b c : Bool) → (m.0 == src) ≡ b → exceeds moment m.1 ≡ c
      → (b ≡ true → source_state_among es src ≡ Absent)
      → is_running (source_state_among (late_members es) src) ≡ is_late (source_state_among es src)
      → is_running (source_state_among (cond c (m ∷ late_members es) (late_members es)) src) ≡ is_late (source_state_among (m ∷ es) src)
  late_step src m es true true own late gone rest =
      rw own (running_by_end m.1 late ∙ sym (late_by_end m.1 ∙ late))
  late_step src m es true false own late gone rest =
      rw own (rest ∙ ap is_late (gone refl) ∙ sym (late_by_end m.1 ∙ late))
  late_step src m es false true own late gone rest = rw own rest
  late_step src m es false false own late gone rest = rw own rest

  -- such a record has a source whose timer runs, where the whole one has it with a late end
  pub late_source_state : (src : ℕ) (es : List Member) → Rises (map (λ (m : Member). m.0) es)
      → is_running (source_state_among (late_members es) src) ≡ is_late (source_state_among es src)
  late_source_state src [] rises = refl
  late_source_state src (m ∷ es) rises =
      late_step src m es (m.0 == src) (exceeds moment m.1) refl refl
      (λ own. gone_of (source_state_among es src)
      (sym (members_among src es)
      ∙ none_below src m.0 (map (λ (e : Member). e.0) es) (omega (arith, eqb-true m.0 src own)) rises.0))
      (late_source_state src es rises.1)

  -- ---- who is asked for

  module _ (timer : Option ℕ) (named : List ℕ) where
    abbrev pub asked_of : List Member → ℕ → Bool
    asked_of es src = is_asked timer RecordType.ToInclude (source_state_among es src) (is_among src named)

    abbrev pub asked_sources : List Member → List ℕ
    asked_sources es = filter (asked_of es) (all_of es named)

    one_asked : (f : SourceState) (b : Bool) → ((is_running f && not b) && (is_member f || b)) ≡ (is_running f && not b)
    one_asked Absent b = refl
    one_asked Excluded b = refl
    one_asked (Included end) true = refl
    one_asked (Included end) false = refl

    who_asked : (es : List Member) (src : ℕ)
        → is_among src (asked_sources es) ≡ (is_running (source_state_among es src) && not (is_among src named))
    who_asked es src =
        among_filter src (asked_of es) (all_of es named)
        ∙ ap (λ (b : Bool). asked_of es src && b) (all_among src es named)
        ∙ one_asked (source_state_among es src) (is_among src named)

    late_too : (f : SourceState) (b : Bool) → (is_late f && not b) ≡ (is_late f && (is_running f && not b))
    late_too Absent b = refl
    late_too Excluded b = refl
    late_too (Included end) b = refl

    asked_rise : (es : List Member) → Rises (asked_sources es)
    asked_rise es =
        rises_filtered (asked_of es) (all_of es named) (Rises-ascending (map (λ (e : Member). e.0) es ++ named))

    -- of the late members alone those are asked for that are late
    pub late_asked : (es : List Member) → Rises (map (λ (m : Member). m.0) es)
        → asked_sources (late_members es) ≡ filter (λ src. is_late (source_state_among es src)) (asked_sources es)
    late_asked es rises =
        let late : ℕ → Bool = λ src. is_late (source_state_among es src) in
        same_rising (asked_sources (late_members es)) (filter late (asked_sources es)) (asked_rise (late_members es))
        (rises_filtered late (asked_sources es) (asked_rise es))
        (λ src. who_asked (late_members es) src
        ∙ ap (λ (b : Bool). b && not (is_among src named)) (late_source_state src es rises)
        ∙ late_too (source_state_among es src) (is_among src named)
        ∙ ap (λ (b : Bool). late src && b) (sym (who_asked es src))
        ∙ sym (among_filter src late (asked_sources es)))

-- ---- what is queried of them

module _ (p q r : ℕ → Bool) (same : (n : ℕ) → p n ≡ true → q n ≡ r n) where
  filters_step : (n : ℕ) (ns : List ℕ) (a b c : Bool) → p n ≡ a → q n ≡ b → r n ≡ c
      → filter r (filter q (filter p ns)) ≡ filter r (filter p ns)
      → filter r (filter q (cond a (n ∷ filter p ns) (filter p ns))) ≡ filter r (cond a (n ∷ filter p ns) (filter p ns))
  filters_step n ns false b c is also third rest = rest
  filters_step n ns true true c is also third rest = rw (also, third) (ap (λ (ms : List ℕ). cond c (n ∷ ms) ms) rest)
  filters_step n ns true false true is also third rest = cc (same n is, also, third)
  filters_step n ns true false false is also third rest = rw (also, third) rest

  filters_alike : (ns : List ℕ) → filter r (filter q (filter p ns)) ≡ filter r (filter p ns)
  filters_alike [] = refl
  filters_alike (n ∷ ns) = filters_step n ns (p n) (q n) (r n) refl refl refl (filters_alike ns)

module _ (i g : ℕ) (w : State) where
  abbrev is_lowered : ℕ → Bool
  is_lowered src = exceeds (query_end w i) (source_end w i g src)

  -- a query lowers the same of both
  queried_alike : (xs ys : List ℕ) → filter is_lowered xs ≡ filter is_lowered ys
      → query_sources w i g xs ≡ query_sources w i g ys
  unfolding query_sources
  queried_alike xs ys same =
      ap (λ (ns : List ℕ).
      let count : SendingRow = record { left = robustness w i } in
      let counted : Table SendingRow = fold (λ t src. put t (source_key i g src) count) w.sendings ns in
      let lower : State = record (lower_sources w i g ns (query_end w i)) { sendings = counted } in
      let after : State × List Message = elim (is_empty_list ns) [ true ↦ (w, []) | false ↦ send_sources lower i g ] in
      after) same

  pub sent_alike : (xs ys : List ℕ) (group : Bool) → filter is_lowered xs ≡ filter is_lowered ys
      → each_in_turn (query_asked i g) w (asked_in_order (Some xs) group)
      ≡ each_in_turn (query_asked i g) w (asked_in_order (Some ys) group)
  unfolding each_in_turn query_asked
  sent_alike xs ys group same =
      let then_group : State × List Message → State × List Message = λ first.
      let later : State × List Message = each_in_turn (query_asked i g) first.0 (asked_in_order None group) in
      (later.0, first.1 ++ later.1) in
      ap then_group (queried_alike xs ys same)

-- ---- a record of the late members alone, to which the report's is applied

module _ (s : State) (i g full : ℕ) (type : RecordType) (named : List ℕ)
    (keeps : keeps_others type ≡ true) (others : asks_named type ≡ false)
    (rise : IsStrictlySortedBy key_cmp (keys_in s.source_records)) (under : AreSources s.source_records)
    (sources_rise : IsStrictlySortedBy nat_cmp (map (λ (e : Key × SourceRecordRow). source_in e.0)
    (filter (λ e. is_at_group i g e.0) s.source_records))) where
  abbrev moment : ℕ
  moment = query_end s i

  abbrev timer : Option ℕ
  timer = group_end s i g

  abbrev whole : List Member
  whole = known i g s.source_records

  abbrev late : ℕ → Bool
  late src = is_late moment (source_state_among whole src)

  ascends : IsAscending whole
  ascends =
      subst (IsStrictlySortedBy nat_cmp)
      (sym (numbers_of_rows (filter (λ e. is_at_group i g e.0) s.source_records))) sources_rise

  abbrev of_whole : GroupRecord × List Asked
  of_whole = apply_record full (record_of s i g) RecordType.ToInclude named

  abbrev after : State
  after = with_record s i g of_whole.0

  whole_told : of_whole ≡ (
    record_made full timer RecordType.ToInclude whole named,
    queries_after timer RecordType.ToInclude whole named,
  )
  unfolding record_of
  whole_told = told full timer RecordType.ToInclude named whole ascends

  abbrev source_state : ℕ → SourceState
  source_state = source_states full timer RecordType.ToInclude whole named

  all_told : (src : ℕ) → is_among src (all_of whole named) ≡ false → source_state src ≡ Absent
  all_told src is =
      let none = neither (is_member (source_state_among whole src)) (is_among src named) (sym (all_among src whole named) ∙ is) in
      rw none.1 (gone_of (source_state_among whole src) none.0)

  -- the row afterwards of a source that isn't named
  row_stays : (src : ℕ) → is_among src named ≡ false
      → row_at after.source_records (source_key i g src) ≡ row_of (source_state_among whole src)
  unfolding with_record with_members with_repeats_of_rows
  row_stays src unnamed =
      ap (λ (p : GroupRecord × List Asked).
      row_at (fold (put_member i g) (drop_where (is_at_group i g) s.source_records) p.0.members) (source_key i g src))
      whole_told
      ∙ anew_row i g s.source_records (up_of_sorted s.source_records rise) under source_state (all_of whole named) all_told src
      ∙ ap (λ (b : Bool). row_of (if b then Included full else source_state_among whole src)) unnamed

  late_row : (m : ℕ) (f : SourceState)
      → exceeds m (option_and_then (λ (r : SourceRecordRow). r.end) (row_of f)) ≡ is_late m f
  late_row m Absent = refl
  late_row m Excluded = refl
  late_row m (Included end) = refl

  same_end : query_end after i ≡ moment
  unfolding with_record with_members with_repeats_of_rows last_member_query_time robustness
  same_end = refl

  late_afterwards : (src : ℕ) → asked_of moment timer named whole src ≡ true
      → late src ≡ exceeds (query_end after i) (source_end after i g src)
  late_afterwards src asked =
      let unnamed : is_among src named ≡ false =
      not_so (is_among src named) (second_so (is_running (source_state_among whole src)) (not (is_among src named)) asked) in
      sym (ap (λ (m : ℕ). exceeds m (source_end after i g src)) same_end
      ∙ ap (λ (o : Option SourceRecordRow). exceeds moment (option_and_then (λ (r : SourceRecordRow). r.end) o))
      (row_stays src unnamed)
      ∙ late_row moment (source_state_among whole src))
    where
      not_so : (b : Bool) → not b ≡ true → b ≡ false
      not_so false e = refl
      not_so true e = cc

  same_lowered : filter (is_lowered i g after) (asked_sources moment timer named (late_members moment whole))
      ≡ filter (is_lowered i g after) (asked_sources moment timer named whole)
  same_lowered =
      ap (filter (is_lowered i g after))
      (late_asked moment timer named whole (Rises-from_sorted (map (λ (m : Member). m.0) whole) ascends))
      ∙ filters_alike (asked_of moment timer named whole) late (is_lowered i g after) late_afterwards (all_of whole named)

  module _ (few : GroupRecord) (timed : few.timer ≡ timer)
      (members : few.members ≡ late_members moment (record_of s i g).members) (few_ascend : IsAscending few.members) where
    few_told : (apply_record full few RecordType.ToInclude named).1
        ≡ queries_after timer RecordType.ToInclude (late_members moment whole) named
    unfolding record_of
    few_told =
        (λ j. (apply_record full (let r : GroupRecord = record { timer = timed j; members = few.members } in r) RecordType.ToInclude named).1)
        ∙ ap (λ (p : GroupRecord × List Asked). p.1) (told full timer RecordType.ToInclude named few.members few_ascend)
        ∙ ap (λ (es : List Member). queries_after timer RecordType.ToInclude es named) members

    to_include_alike : (asked : List Asked) → asked ≡ (apply_record full few RecordType.ToInclude named).1
        → AsksAlike s i g of_whole asked
    to_include_alike asked are =
        ap (each_in_turn (query_asked i g) after) (are ∙ few_told)
        ∙ sent_alike i g after (asked_sources moment timer named (late_members moment whole))
        (asked_sources moment timer named whole) (is_some timer) same_lowered
        ∙ sym (ap (λ (p : GroupRecord × List Asked). each_in_turn (query_asked i g) after p.1) whole_told)

    pub late_alike : (asked : List Asked) → asked ≡ (apply_record full few type named).1
        → AsksAlike s i g (apply_record full (record_of s i g) type named) asked
    late_alike asked are =
        let is : type ≡ RecordType.ToInclude = to_include type keeps others in
        subst (λ (x : RecordType). AsksAlike s i g (apply_record full (record_of s i g) x named) asked) (sym is)
        (to_include_alike asked (are ∙ ap (λ (x : RecordType). (apply_record full few x named).1) is))

-- ---- what is read of the rows

module _ (moment : ℕ) where
  below_step : (n : ℕ) (m : Member) (es : List Member) (b : Bool) → nat_cmp n m.0 ≡ Less
      → AllByRecursion (λ k. nat_cmp n k ≡ Less) (map (λ (x : Member). x.0) (late_members moment es))
      → AllByRecursion (λ k. nat_cmp n k ≡ Less)
      (map (λ (x : Member). x.0) (cond b (m ∷ late_members moment es) (late_members moment es)))
  below_step n m es true less below = (less, below)
  below_step n m es false less below = below

  late_below : (n : ℕ) (es : List Member) → AllByRecursion (λ k. nat_cmp n k ≡ Less) (map (λ (x : Member). x.0) es)
      → AllByRecursion (λ k. nat_cmp n k ≡ Less) (map (λ (x : Member). x.0) (late_members moment es))
  late_below n [] below = tt
  late_below n (m ∷ es) below = below_step n m es (exceeds moment m.1) below.0 (late_below n es below.1)

  rise_step : (m : Member) (es : List Member) (b : Bool)
      → AllByRecursion (λ k. nat_cmp m.0 k ≡ Less) (map (λ (x : Member). x.0) (late_members moment es))
      → IsAscending (late_members moment es)
      → IsAscending (cond b (m ∷ late_members moment es) (late_members moment es))
  unfolding IsStrictlySortedBy
  rise_step m es true below rise = (below, rise)
  rise_step m es false below rise = rise

  pub late_rise : (es : List Member) → IsAscending es → IsAscending (late_members moment es)
  unfolding IsStrictlySortedBy
  late_rise [] rise = tt
  late_rise (m ∷ es) rise =
      rise_step m es (exceeds moment m.1) (late_below m.0 es rise.0) (late_rise es rise.1)

  -- the late members of a group's rows rise
  pub late_read : (rows left : Table SourceRecordRow) (ms : List CodeMember) (whole : List Member) → left ≡ []
      → member_entries ms ++ late_members moment (members_of left) ≡ late_members moment whole → members_of rows ≡ whole
      → IsStrictlySortedBy nat_cmp (map (λ e. source_in e.0) rows) → IsAscending (member_entries ms)
  unfolding members_of
  late_read rows left ms whole none so_far are rise =
      let read : member_entries ms ≡ late_members moment whole =
      sym (append-nil (member_entries ms))
      ∙ ap (λ (t : Table SourceRecordRow). member_entries ms ++ late_members moment (members_of t)) (sym none) ∙ so_far in
      subst IsAscending (sym read)
      (late_rise whole
      (subst IsAscending are (subst (IsStrictlySortedBy nat_cmp) (sym (numbers_of_rows rows)) rise)))
