-- A record of a report that deletes no source, applied to what is known of the sources that it names alone.
use Rattle.std.{proofs.{Common.{◌≡◌, ℕ, append-nil, Result, Ok, Err, IfOk, ◌==◌, ◌&&◌, ◌||◌, ◌++◌, Bool, true, false, not, cond, List, [], ◌∷◌, find, fold, map, Option, Some, None, is_none, option_map, eqb-true, eq-eqb, refl, ap, sym, subst, ◌∙◌}, lemmas.{Bool.or_right, List.{Folds.list_any-append, Kept.IsStrictlySortedBy-filter}}}, specs.{List.{AllByRecursion, cons_option, filter, list_any, Sorted.IsStrictlySortedBy}, Option.option_map_or, Ordering.{is_eq, match_ordering, nat_cmp}, Prelude.if◌then◌else◌, declared.cmp.Ordering.{Ordering, TheVariants.{Less, Equal, Greater}}}}
use Rattle.igmp_wire.{specs.{declared.report.RecordType.RecordType, Written.bits_of}}
use Rattle.pim_ip.{specs.{Addr.addr, declared.addr.Addr.Addr}}
use Rattle.pim_types.{specs.{declared.fact.{GroupRecordRow.GroupRecordRow, Key.Key, SourceRecordRow.SourceRecordRow}, Keys.{addr_cmp, key_cmp, source_in, source_key, star_key}}, proofs.Keys.equal_keys}
use Rattle.pim_model.{specs.{Querier.group_end, Records.{Asked, SourceState, Absent, Excluded, Included, GroupRecord, Member, apply_record, source_state_in, is_at_group, is_no_record, is_running, put_member, record_of, with_members, with_record, with_repeats_of_rows}, State.State, Tables.{Table, drop_at, drop_where, is_among, is_empty_list, keys_in, put, row_at}}}
use Rattle.pim_filters.{specs.{Asking.asked_in_order, Members.{IsAscending, member_entries}, Rules.{asks_group, asks_sources, source_state_after, is_asked, timer_after}, declared.member.Member.Member as CodeMember}, proofs.{Applying.{all_of, applied, asked_are, entries_are, queries_after}, Merging.source_state_among, Orders.{Rises, Rises-ascending, Rises-from_sorted, is_among-ascending, same_rising, sorted_from_Rises}}}
use Rattle.law_settled.{proofs.TableLaws.any_in_filter}
use Rattle.pim_querier.{specs.{Changes.beside, Reports.{asks_named, keeps_others, known_members}}, proofs.{OneSource.AreSources, NamedSet.bits_rise, NamedSources.{known, known_row, made, row_of, same_written}, Reported.numbers_of_rows}}
use Rattle.pim_tables.{proofs.RisingRows.{Up, up_of_sorted}}

-- ---- a record of each source's state

abbrev pub source_states : ℕ → Option ℕ → RecordType → List Member → List ℕ → ℕ → SourceState
source_states full timer type es named src = source_state_after full timer type (source_state_among es src) (is_among src named)

abbrev pub record_made : ℕ → Option ℕ → RecordType → List Member → List ℕ → GroupRecord
record_made full timer type es named = record {
  timer = timer_after full timer type;
  members = made (source_states full timer type es named) (all_of es named);
}

abbrev as_members : List Member → List CodeMember
as_members es = map (λ (m : Member). let c : CodeMember = record { source = addr m.0; end = m.1 } in c) es

as_entries : (es : List Member) → member_entries (as_members es) ≡ es
as_entries [] = refl
as_entries (m ∷ es) = ap (λ (xs : List Member). m ∷ xs) (as_entries es)

module _ (full : ℕ) (timer : Option ℕ) (type : RecordType) (named : List ℕ) where
  abbrev Told : List Member → Type 0
  Told es =
      apply_record full (let r : GroupRecord = record { timer = timer; members = es } in r) type named
      ≡ (record_made full timer type es named, queries_after timer type es named)

  told_of_code : (ms : List CodeMember) → IsAscending (member_entries ms) → Told (member_entries ms)
  told_of_code ms ascends =
      applied (record { record_type = type; timer = timer; full = full }) ms named ascends
      ∙ (λ j. (
        record { timer = timer_after full timer type; members = entries_are full timer type ms named ascends j },
        cond (asks_sources type) (asked_in_order (Some (asked_are timer type ms named ascends j)) (asks_group timer type)) [],
      ))

  pub told : (es : List Member) → IsAscending es → Told es
  told es ascends =
      subst Told (as_entries es) (told_of_code (as_members es) (subst IsAscending (sym (as_entries es)) ascends))

-- ---- records that delete no source

stays : (full : ℕ) (timer : Option ℕ) (type : RecordType) (f : SourceState) → keeps_others type ≡ true
    → source_state_after full timer type f false ≡ f
stays full timer RecordType.IsInclude f keeps = refl
stays full timer RecordType.Allow f keeps = refl
stays full timer RecordType.ToInclude f keeps = refl
stays full None RecordType.Block f keeps = refl
stays full (Some end) RecordType.Block f keeps = refl
stays full timer RecordType.IsExclude f keeps = cc
stays full timer RecordType.ToExclude f keeps = cc

none_goes : (full : ℕ) (timer : Option ℕ) (type : RecordType) (f : SourceState) → keeps_others type ≡ true
    → source_state_after full timer type f true ≡ Absent → f ≡ Absent
none_goes full timer RecordType.IsInclude f keeps gone = cc
none_goes full timer RecordType.Allow f keeps gone = cc
none_goes full timer RecordType.ToInclude f keeps gone = cc
none_goes full None RecordType.Block f keeps gone = gone
none_goes full (Some end) RecordType.Block Absent keeps gone = refl
none_goes full (Some end) RecordType.Block Excluded keeps gone = cc
none_goes full (Some end) RecordType.Block (Included n) keeps gone = cc
none_goes full timer RecordType.IsExclude f keeps gone = cc
none_goes full timer RecordType.ToExclude f keeps gone = cc

-- ---- who is a member

abbrev pub is_member : SourceState → Bool
is_member Absent = false
is_member _ = true

by_end : (o : Option ℕ) → is_member (option_map_or Included o Excluded) ≡ true
by_end None = refl
by_end (Some end) = refl

member_step : (src : ℕ) (m : Member) (es : List Member) (b : Bool)
    → is_among src (map (λ (e : Member). e.0) es) ≡ is_member (source_state_among es src)
    → (b || is_among src (map (λ (e : Member). e.0) es))
    ≡ is_member (option_map_or (λ (e : Member). option_map_or Included e.1 Excluded) (cond b (Some m) (find (λ (e : Member). e.0 == src) es)) Absent)
member_step src m es true rest = sym (by_end m.1)
member_step src m es false rest = rest

pub members_among : (src : ℕ) (es : List Member)
    → is_among src (map (λ (e : Member). e.0) es) ≡ is_member (source_state_among es src)
unfolding is_among
members_among src [] = refl
members_among src (m ∷ es) = member_step src m es (m.0 == src) (members_among src es)

pub all_among : (src : ℕ) (es : List Member) (named : List ℕ)
    → is_among src (all_of es named) ≡ (is_member (source_state_among es src) || is_among src named)
unfolding is_among
all_among src es named =
    is_among-ascending src (map (λ (e : Member). e.0) es ++ named)
    ∙ list_any-append (λ m. m == src) (map (λ (e : Member). e.0) es) named
    ∙ ap (λ (b : Bool). b || is_among src named) (members_among src es)

pub gone_of : (f : SourceState) → is_member f ≡ false → f ≡ Absent
gone_of Absent e = refl
gone_of Excluded e = cc
gone_of (Included end) e = cc

pub neither : (b c : Bool) → (b || c) ≡ false → (b ≡ false) × (c ≡ false)
neither true c e = cc
neither false c e = (refl, e)

-- ---- what is known of the named sources alone

-- of each that is named what the whole says, and nothing of others
abbrev pub KnowsNamed : List Member → List ℕ → List Member → Type 0
KnowsNamed whole named es =
    (src : ℕ) → source_state_among es src ≡ cond (is_among src named) (source_state_among whole src) Absent

module _ (i g full : ℕ) (timer : Option ℕ) (type : RecordType) (keeps : keeps_others type ≡ true) (named : List ℕ)
    (es : List Member) (t : Table SourceRecordRow) (up : Up t) (under : AreSources t)
    (knows : KnowsNamed (known i g t) named es) where
  abbrev whole : List Member
  whole = known i g t

  abbrev source_state : ℕ → SourceState
  source_state = source_states full timer type whole named

  abbrev few : ℕ → SourceState
  few = source_states full timer type es named

  same_source_state : (src : ℕ) (b : Bool) → is_among src named ≡ b → b ≡ true → source_state_among es src ≡ source_state_among whole src
  same_source_state src true is e = knows src ∙ ap (λ (c : Bool). cond c (source_state_among whole src) Absent) is
  same_source_state src false is e = cc

  named_so : (src : ℕ) → is_among src named ≡ true → few src ≡ source_state src
  named_so src is =
      ap (λ (f : SourceState). source_state_after full timer type f (is_among src named)) (same_source_state src (is_among src named) refl is)

  others_stay : (src : ℕ) → is_among src named ≡ false → source_state src ≡ source_state_among whole src
  others_stay src is =
      ap (λ (b : Bool). source_state_after full timer type (source_state_among whole src) b) is
      ∙ stays full timer type (source_state_among whole src) keeps

  some_by : (src : ℕ) (b : Bool) → is_among src named ≡ b → (is_member (source_state_among es src) || b) ≡ b
  some_by src true is = or_right (is_member (source_state_among es src)) true refl
  some_by src false is =
      ap (λ (f : SourceState). is_member f || false) (knows src ∙ ap (λ (c : Bool). cond c (source_state_among whole src) Absent) is)

  some_named : (src : ℕ) → is_among src (all_of es named) ≡ is_among src named
  some_named src = all_among src es named ∙ some_by src (is_among src named) refl

  all_told : (src : ℕ) → is_among src (all_of whole named) ≡ false → source_state src ≡ Absent
  all_told src is =
      let none = neither (is_member (source_state_among whole src)) (is_among src named) (sym (all_among src whole named) ∙ is) in
      others_stay src none.1 ∙ gone_of (source_state_among whole src) none.0

  named_goes : (src : ℕ) → is_among src named ≡ true → source_state src ≡ Absent → source_state_among whole src ≡ Absent
  named_goes src is gone =
      none_goes full timer type (source_state_among whole src) keeps
      (ap (λ (b : Bool). source_state_after full timer type (source_state_among whole src) b) (sym is) ∙ gone)

  -- what is written of all, and of the named ones alone
  pub written_alike : fold (put_member i g) (drop_where (is_at_group i g) t) (made source_state (all_of whole named))
      ≡ fold (put_member i g) t (made few (all_of es named))
  written_alike =
      same_written i g t up under named source_state few (all_of whole named) (all_of es named) named_so others_stay some_named
      all_told named_goes

-- ---- whether a member is left

module _ (i g : ℕ) where
  abbrev at_group : Key × SourceRecordRow → Bool
  at_group e = is_at_group i g e.0

  put_step : (k : Key) (r : SourceRecordRow) (e : Key × SourceRecordRow) (t : Table SourceRecordRow) (o : Ordering)
      → key_cmp k e.0 ≡ o → is_at_group i g k ≡ true → list_any at_group (put t k r) ≡ true
      → list_any at_group (match_ordering o ((k, r) ∷ e ∷ t) ((e.0, r) ∷ t) (e ∷ put t k r)) ≡ true
  put_step k r e t Less is here rest = rw here refl
  put_step k r e t Equal is here rest =
      let there : is_at_group i g e.0 ≡ true = ap (is_at_group i g) (sym (equal_keys k e.0 (ap is_eq is))) ∙ here in
      rw there refl
  put_step k r e t Greater is here rest = or_right (at_group e) (list_any at_group (put t k r)) rest

  any_put : (k : Key) (r : SourceRecordRow) (t : Table SourceRecordRow) → is_at_group i g k ≡ true
      → list_any at_group (put t k r) ≡ true
  unfolding put
  any_put k r [] here = rw here refl
  any_put k r (e ∷ t) here = put_step k r e t (key_cmp k e.0) refl here (any_put k r t here)

  own_here : (m : Member) → is_at_group i g (source_key i g m.0) ≡ true
  own_here m = rw (eq-eqb i i refl, eq-eqb g g refl) refl

  any_after : (ms : List Member) (t : Table SourceRecordRow) → list_any at_group t ≡ true
      → list_any at_group (fold (put_member i g) t ms) ≡ true
  any_after [] t some = some
  any_after (m ∷ ms) t some =
      any_after ms (put_member i g t m) (any_put (source_key i g m.0) (record { end = m.1 }) t (own_here m))

  other_step : (e : Key × SourceRecordRow) (t : Table SourceRecordRow) (b : Bool) → at_group e ≡ b
      → list_any at_group (filter (λ x. not (is_at_group i g x.0)) t) ≡ false
      → list_any at_group (cond (not b) (e ∷ filter (λ x. not (is_at_group i g x.0)) t) (filter (λ x. not (is_at_group i g x.0)) t)) ≡ false
  other_step e t true is rest = rest
  other_step e t false is rest = rw is rest

  no_other : (t : Table SourceRecordRow) → list_any at_group (drop_where (is_at_group i g) t) ≡ false
  unfolding drop_where
  no_other [] = refl
  no_other (e ∷ t) = other_step e t (at_group e) refl (no_other t)

  pub none_written : (ms : List Member) (t : Table SourceRecordRow)
      → is_empty_list ms ≡ not (list_any at_group (fold (put_member i g) (drop_where (is_at_group i g) t) ms))
  none_written [] t = sym (ap not (no_other t))
  none_written (m ∷ ms) t =
      sym (ap not (any_after ms (put_member i g (drop_where (is_at_group i g) t) m)
      (any_put (source_key i g m.0) (record { end = m.1 }) (drop_where (is_at_group i g) t) (own_here m))))

-- ---- what is asked of named sources

among_filter_step : (k m : ℕ) (p : ℕ → Bool) (ms : List ℕ) (b : Bool) → (m == k) ≡ b
    → list_any (λ n. p n && (n == k)) ms ≡ (p k && list_any (λ n. n == k) ms)
    → ((p m && b) || list_any (λ n. p n && (n == k)) ms) ≡ (p k && (b || list_any (λ n. n == k) ms))
among_filter_step k m p ms true is rest =
    ap (λ (n : ℕ). (p n && true) || list_any (λ j. p j && (j == k)) ms) (eqb-true m k is)
    ∙ ap (λ (b : Bool). (p k && true) || b) rest ∙ both (p k) (list_any (λ n. n == k) ms)
  where
    both : (a c : Bool) → ((a && true) || (a && c)) ≡ (a && true)
    both true c = refl
    both false c = refl
among_filter_step k m p ms false is rest = ap (λ (b : Bool). b || list_any (λ n. p n && (n == k)) ms) (none (p m)) ∙ rest
  where
    none : (a : Bool) → (a && false) ≡ false
    none true = refl
    none false = refl

among_where : (k : ℕ) (p : ℕ → Bool) (ms : List ℕ)
    → list_any (λ n. p n && (n == k)) ms ≡ (p k && list_any (λ n. n == k) ms)
among_where k p [] = sym (none (p k))
  where
    none : (a : Bool) → (a && false) ≡ false
    none true = refl
    none false = refl
among_where k p (m ∷ ms) = among_filter_step k m p ms (m == k) refl (among_where k p ms)

pub among_filter : (k : ℕ) (p : ℕ → Bool) (ms : List ℕ) → is_among k (filter p ms) ≡ (p k && is_among k ms)
unfolding is_among
among_filter k p ms = any_in_filter p (λ n. n == k) ms ∙ among_where k p ms

pub rises_filtered : (p : ℕ → Bool) (ms : List ℕ) → Rises ms → Rises (filter p ms)
rises_filtered p ms rises =
    Rises-from_sorted (filter p ms) (IsStrictlySortedBy-filter nat_cmp p ms (sorted_from_Rises ms rises))

unnamed_unasked : (timer : Option ℕ) (f : SourceState) → is_asked timer RecordType.Block f false ≡ false
unnamed_unasked None f = none (is_running f)
  where
    none : (a : Bool) → (a && false) ≡ false
    none true = refl
    none false = refl
unnamed_unasked (Some end) f = refl

module _ (timer : Option ℕ) (named : List ℕ) (whole es : List Member) (knows : KnowsNamed whole named es) where
  abbrev asked_of : List Member → ℕ → Bool
  asked_of ms k = is_asked timer RecordType.Block (source_state_among ms k) (is_among k named)

  both_asked : (k : ℕ) (b : Bool) → is_among k named ≡ b
      → (asked_of whole k && is_among k (all_of whole named)) ≡ (asked_of es k && is_among k (all_of es named))
  both_asked k true is =
      let there : (ms : List Member) → is_among k (all_of ms named) ≡ true =
      λ ms. all_among k ms named ∙ or_right (is_member (source_state_among ms k)) (is_among k named) is in
      let same : source_state_among es k ≡ source_state_among whole k =
      knows k ∙ ap (λ (c : Bool). cond c (source_state_among whole k) Absent) is in
      ap (λ (b : Bool). asked_of whole k && b) (there whole)
      ∙ ap (λ (f : SourceState). is_asked timer RecordType.Block f (is_among k named) && true) (sym same)
      ∙ sym (ap (λ (b : Bool). asked_of es k && b) (there es))
  both_asked k false is =
      let un : (ms : List Member) → asked_of ms k ≡ false =
      λ ms. ap (λ (b : Bool). is_asked timer RecordType.Block (source_state_among ms k) b) is ∙ unnamed_unasked timer (source_state_among ms k) in
      ap (λ (b : Bool). b && is_among k (all_of whole named)) (un whole)
      ∙ sym (ap (λ (b : Bool). b && is_among k (all_of es named)) (un es))

  asked_alike : filter (asked_of whole) (all_of whole named) ≡ filter (asked_of es) (all_of es named)
  asked_alike =
      same_rising (filter (asked_of whole) (all_of whole named)) (filter (asked_of es) (all_of es named))
      (rises_filtered (asked_of whole) (all_of whole named) (Rises-ascending (map (λ (e : Member). e.0) whole ++ named)))
      (rises_filtered (asked_of es) (all_of es named) (Rises-ascending (map (λ (e : Member). e.0) es ++ named)))
      (λ k. among_filter k (asked_of whole) (all_of whole named) ∙ both_asked k (is_among k named) refl
      ∙ sym (among_filter k (asked_of es) (all_of es named)))

  queries_alike : (type : RecordType) → asks_named type ≡ true
      → queries_after timer type whole named ≡ queries_after timer type es named
  queries_alike RecordType.IsInclude asks = refl
  queries_alike RecordType.Allow asks = refl
  queries_alike RecordType.Block asks =
      ap (λ (ns : List ℕ). asked_in_order (Some ns) (asks_group timer RecordType.Block)) asked_alike
  queries_alike RecordType.ToInclude asks = cc
  queries_alike RecordType.IsExclude asks = cc
  queries_alike RecordType.ToExclude asks = cc

-- ---- the record of the group with what is known of the named sources alone

module _ (s : State) (i g full : ℕ) (type : RecordType) (named : List ℕ) (es : List Member)
    (rise : IsStrictlySortedBy key_cmp (keys_in s.source_records)) (under : AreSources s.source_records)
    (ascends : IsAscending (known i g s.source_records)) (few_ascend : IsAscending es)
    (knows : KnowsNamed (known i g s.source_records) named es) where
  abbrev timer : Option ℕ
  timer = group_end s i g

  abbrev pub of_whole : GroupRecord × List Asked
  of_whole = apply_record full (record_of s i g) type named

  abbrev pub of_named : GroupRecord × List Asked
  of_named = apply_record full (let r : GroupRecord = record { timer = timer; members = es } in r) type named

  whole_told : of_whole ≡ (
    record_made full timer type (known i g s.source_records) named,
    queries_after timer type (known i g s.source_records) named,
  )
  unfolding record_of
  whole_told = told full timer type named (known i g s.source_records) ascends

  few_told : of_named ≡ (record_made full timer type es named, queries_after timer type es named)
  few_told = told full timer type named es few_ascend

  named_asked : asks_named type ≡ true → of_whole.1 ≡ of_named.1
  named_asked asks =
      ap (λ (p : GroupRecord × List Asked). p.1) whole_told
      ∙ queries_alike timer named (known i g s.source_records) es knows type asks
      ∙ sym (ap (λ (p : GroupRecord × List Asked). p.1) few_told)

  abbrev rows : Table SourceRecordRow
  rows = fold (put_member i g) s.source_records of_named.0.members

  abbrev written : Option ℕ → Bool → Table SourceRecordRow → State
  written end is_none t =
      let timed : Table GroupRecordRow = put s.group_records (star_key i g) (record { end = end }) in
      with_repeats_of_rows (record s {
        group_records = (if is_none then drop_at timed (star_key i g) else timed);
        source_records = t;
      }) i g

  named_written : keeps_others type ≡ true
      → beside i g s of_named.0 ≡ with_record s i g of_whole.0
  unfolding beside with_record with_members
  named_written keeps =
      let anew : List Member → Table SourceRecordRow =
      λ ms. fold (put_member i g) (drop_where (is_at_group i g) s.source_records) ms in
      let same : anew of_whole.0.members ≡ rows =
      ap (λ (p : GroupRecord × List Asked). anew p.0.members) whole_told
      ∙ written_alike i g full timer type keeps named es s.source_records (up_of_sorted s.source_records rise) under knows
      ∙ sym (ap (λ (p : GroupRecord × List Asked). fold (put_member i g) s.source_records p.0.members) few_told) in
      let ends : of_whole.0.timer ≡ of_named.0.timer =
      ap (λ (p : GroupRecord × List Asked). p.0.timer) whole_told
      ∙ sym (ap (λ (p : GroupRecord × List Asked). p.0.timer) few_told) in
      let none : is_no_record of_whole.0
      ≡ (is_none of_named.0.timer && not (list_any (λ e. is_at_group i g e.0) rows)) =
      ap (λ (o : Option ℕ). is_none o && is_empty_list of_whole.0.members) ends
      ∙ ap (λ (b : Bool). is_none of_named.0.timer && b) (none_written i g of_whole.0.members s.source_records)
      ∙ ap (λ (t : Table SourceRecordRow). is_none of_named.0.timer && not (list_any (λ e. is_at_group i g e.0) t)) same in
      sym (ap (λ (o : Option ℕ). written o (is_no_record of_whole.0) (anew of_whole.0.members)) ends
      ∙ ap (λ (b : Bool). written of_named.0.timer b (anew of_whole.0.members)) none
      ∙ ap (λ (t : Table SourceRecordRow). written of_named.0.timer (is_none of_named.0.timer && not (list_any (λ e. is_at_group i g e.0) rows)) t) same)

-- a record of the named sources alone, to which the report's is applied
module _ (s : State) (i g full : ℕ) (type : RecordType) (named : List ℕ) (few : GroupRecord)
    (rise : IsStrictlySortedBy key_cmp (keys_in s.source_records)) (under : AreSources s.source_records)
    (sources_rise : IsStrictlySortedBy nat_cmp (map (λ (e : Key × SourceRecordRow). source_in e.0)
    (filter (λ e. is_at_group i g e.0) s.source_records)))
    (timed : few.timer ≡ group_end s i g) (few_ascend : IsAscending few.members)
    (fares : (src : ℕ) → source_state_in few src
    ≡ (if is_among src named then source_state_in (record_of s i g) src else Absent)) where
  ascends : IsAscending (known i g s.source_records)
  ascends =
      subst (IsStrictlySortedBy nat_cmp)
      (sym (numbers_of_rows (filter (λ e. is_at_group i g e.0) s.source_records))) sources_rise

  knows : KnowsNamed (known i g s.source_records) named few.members
  unfolding source_state_in record_of
  knows src = fares src

  few_applied : apply_record full few type named ≡ of_named s i g full type named few.members rise under ascends few_ascend knows
  few_applied =
      ap (λ (o : Option ℕ). apply_record full (let r : GroupRecord = record { timer = o; members = few.members } in r) type named)
      timed

  -- what it requests is what the whole record asks for
  pub few_asked : (asked : List Asked) → asks_named type ≡ true → asked ≡ (apply_record full few type named).1
      → asked ≡ (apply_record full (record_of s i g) type named).1
  few_asked asked asks are =
      are ∙ ap (λ (p : GroupRecord × List Asked). p.1) few_applied
      ∙ sym (named_asked s i g full type named few.members rise under ascends few_ascend knows asks)

  -- where its sources are put beside the others, the whole record is written
  pub few_written : (after : GroupRecord) (t : State) → keeps_others type ≡ true
      → after ≡ (apply_record full few type named).0 → t ≡ beside i g s after
      → t ≡ with_record s i g (apply_record full (record_of s i g) type named).0
  few_written after t keeps is those =
      those ∙ ap (beside i g s) (is ∙ ap (λ (p : GroupRecord × List Asked). p.0) few_applied)
      ∙ named_written s i g full type named few.members rise under ascends few_ascend knows keeps

-- ---- what is gathered of the named sources

module _ (i g : ℕ) (t : Table SourceRecordRow) where
  abbrev gathered : List ℕ → List Member
  gathered ns = known_members i g t ns

  abbrev source_state_of_row : Option SourceRecordRow → SourceState
  source_state_of_row o = option_map_or (λ (r : SourceRecordRow). option_map_or Included r.end Excluded) o Absent

  abbrev row_source_state : ℕ → SourceState
  row_source_state src = source_state_of_row (row_at t (source_key i g src))

  gathered_step : (src n : ℕ) (ns : List ℕ) (b : Bool) → (n == src) ≡ b → (o : Option SourceRecordRow)
      → row_at t (source_key i g n) ≡ o
      → source_state_among (gathered ns) src ≡ cond (is_among src ns) (row_source_state src) Absent
      → source_state_among (cons_option (option_map (λ (r : SourceRecordRow). let m : Member = (n, r.end) in m) o) (gathered ns)) src
      ≡ cond (b || is_among src ns) (row_source_state src) Absent
  gathered_step src n ns true is (Some r) found rest =
      rw is (ap source_state_of_row (sym found) ∙ ap row_source_state (eqb-true n src is))
  gathered_step src n ns true is None found rest =
      let gone : row_source_state src ≡ Absent = ap row_source_state (sym (eqb-true n src is)) ∙ ap source_state_of_row found in
      rest ∙ by_among (is_among src ns) gone
    where
      by_among : (c : Bool) → row_source_state src ≡ Absent → cond c (row_source_state src) Absent ≡ row_source_state src
      by_among true gone = refl
      by_among false gone = sym gone
  gathered_step src n ns false is (Some r) found rest = rw is rest
  gathered_step src n ns false is None found rest = rest

  gathered_source_state : (src : ℕ) (ns : List ℕ) → source_state_among (gathered ns) src ≡ cond (is_among src ns) (row_source_state src) Absent
  unfolding is_among
  gathered_source_state src [] = refl
  gathered_source_state src (n ∷ ns) =
      gathered_step src n ns (n == src) refl (row_at t (source_key i g n)) refl (gathered_source_state src ns)

  row_source_state_is : (f : SourceState) → source_state_of_row (row_of f) ≡ f
  row_source_state_is Absent = refl
  row_source_state_is Excluded = refl
  row_source_state_is (Included end) = refl

  pub gathered_knows : (ns named : List ℕ) → AreSources t → ((n : ℕ) → is_among n ns ≡ is_among n named)
      → KnowsNamed (known i g t) named (gathered ns)
  gathered_knows ns named under same src =
      gathered_source_state src ns
      ∙ ap (λ (b : Bool). cond b (row_source_state src) Absent) (same src)
      ∙ ap (λ (f : SourceState). cond (is_among src named) f Absent)
      (ap source_state_of_row (known_row i g src t under) ∙ row_source_state_is (source_state_among (known i g t) src))

  below_step : (n m : ℕ) (o : Option SourceRecordRow) (rest : List Member) → nat_cmp n m ≡ Less
      → AllByRecursion (λ k. nat_cmp n k ≡ Less) (map (λ (x : Member). x.0) rest)
      → AllByRecursion (λ k. nat_cmp n k ≡ Less) (map (λ (x : Member). x.0)
      (cons_option (option_map (λ (r : SourceRecordRow). let x : Member = (m, r.end) in x) o) rest))
  below_step n m None rest less below = below
  below_step n m (Some r) rest less below = (less, below)

  all_below : (n : ℕ) (ns : List ℕ) → AllByRecursion (λ k. nat_cmp n k ≡ Less) ns
      → AllByRecursion (λ k. nat_cmp n k ≡ Less) (map (λ (x : Member). x.0) (gathered ns))
  all_below n [] below = tt
  all_below n (m ∷ ns) below =
      below_step n m (row_at t (source_key i g m)) (gathered ns) below.0 (all_below n ns below.1)

  ascend_step : (n : ℕ) (o : Option SourceRecordRow) (rest : List Member)
      → AllByRecursion (λ k. nat_cmp n k ≡ Less) (map (λ (x : Member). x.0) rest) → IsAscending rest
      → IsAscending (cons_option (option_map (λ (r : SourceRecordRow). let x : Member = (n, r.end) in x) o) rest)
  unfolding IsStrictlySortedBy
  ascend_step n None rest below sorted = sorted
  ascend_step n (Some r) rest below sorted = (below, sorted)

  pub gathered_ascend : (ns : List ℕ) → IsStrictlySortedBy nat_cmp ns → IsAscending (gathered ns)
  unfolding IsStrictlySortedBy
  gathered_ascend [] sorted = tt
  gathered_ascend (n ∷ ns) sorted =
      ascend_step n (row_at t (source_key i g n)) (gathered ns) (all_below n ns sorted.0) (gathered_ascend ns sorted.1)

-- what a record of these sources says of each
pub gathered_fares : (s : State) (i g : ℕ) (ns named : List ℕ) (few : GroupRecord) → AreSources s.source_records
    → ((n : ℕ) → is_among n ns ≡ is_among n named) → few.members ≡ known_members i g s.source_records ns → (src : ℕ)
    → source_state_in few src ≡ (if is_among src named then source_state_in (record_of s i g) src else Absent)
unfolding source_state_in record_of
gathered_fares s i g ns named few under same are src =
    ap (λ (es : List Member). source_state_among es src) are ∙ gathered_knows i g s.source_records ns named under same src

-- those that were gathered of a set rise
pub gathered_rise : (i g : ℕ) (t : Table SourceRecordRow) (ms : List CodeMember) (left set : List Addr) → left ≡ []
    → member_entries ms ++ known_members i g t (bits_of left) ≡ known_members i g t (bits_of set)
    → IsStrictlySortedBy addr_cmp set → IsAscending (member_entries ms)
gathered_rise i g t ms left set none so_far rise =
    subst IsAscending
    (sym (sym (append-nil (member_entries ms))
    ∙ ap (λ (rest : List Addr). member_entries ms ++ known_members i g t (bits_of rest)) (sym none) ∙ so_far))
    (gathered_ascend i g t (bits_of set) (bits_rise set rise))

-- what is said of a record that is made
pub made_so : {E : Type 0} (P : GroupRecord → Type 0) (made : Result GroupRecord E) (r : GroupRecord)
    → IfOk made (λ known. known ≡ r) → P r → IfOk made P
made_so P (Ok known) r is so = subst P (sym is) so
made_so P (Err refused) r is so = tt
