-- A record after a message, by the cases of its sources.
use Rattle.std.{proofs.{Common.{◌≡◌, ℕ, Bool, true, false, cond, List, [], ◌∷◌, ◌++◌, map, filter, Option, Some, None, refl, ap, subst, sym, ◌∙◌, ◌==◌, ◌||◌, nat_lt}, lemmas.List.Folds.list_any-append}, specs.{List.{AllByRecursion, cons_option, filter_map, Sorted.IsStrictlySortedBy}, Ordering.nat_cmp, declared.cmp.Ordering.TheVariants.Less}}
use Rattle.igmp_wire.{specs.declared.report.RecordType.RecordType}
use Rattle.pim_filters.{specs.{Asking.asked_in_order, Cases.{CaseValue, cases_in, cases_with, member_case, new_case, case_value}, Changes.{asked_after, entry_after}, Members.{IsAscending, bits_of, member_entries, member_entry, source_state_at, source_state_of}, Rules.{asks_group, asks_sources, source_state_after, is_asked, kept_or, timer_after}, declared.{case.Case.Case, member.Member.Member, rule.Rule.Rule}}, proofs.{Merging.{AtLeast-zero, Rises-cases, Tells, among_cases, source_state_among, keys, sources_in, values_of_cases}, Orders.{Rises, Rises-ascending, Rises-from_sorted, is_among-ascending, same_rising, sorted_from_Rises}}}
use Rattle.pim_model.specs.{Records.{GroupRecord, apply_record, asks, source_state_in, from_exclude, from_include, record_with}, Tables.{ascending, is_among}}
use Rattle.pim_model.specs.Records as records

-- ---- the cases are the sources of both

keys_of_cases : (ms : List Member) (named : List ℕ) → Rises (sources_in ms)
    → keys (cases_in ms (ascending named)) ≡ ascending (sources_in ms ++ named)
unfolding is_among
keys_of_cases ms named rises =
    same_rising (keys (cases_in ms (ascending named))) (ascending (sources_in ms ++ named))
    (Rises-cases ms (ascending named) rises (Rises-ascending named)) (Rises-ascending (sources_in ms ++ named))
    (λ k. among_cases k ms (ascending named)
    ∙ ap (λ b. is_among k (sources_in ms) || b) (is_among-ascending k named)
    ∙ sym (list_any-append (λ m. m == k) (sources_in ms) named)
    ∙ sym (is_among-ascending k (sources_in ms ++ named)))

-- what is said of a source of a record and a message
abbrev pub told_of : List records.Member → List ℕ → ℕ → CaseValue
told_of es named k = (k, source_state_among es k, is_among k named)

pub values_are : (ms : List Member) (named : List ℕ) → IsAscending (member_entries ms)
    → map case_value (cases_in ms (ascending named)) ≡ map (told_of (member_entries ms) named) (ascending (sources_in ms ++ named))
values_are ms named ascends =
    let rises : Rises (sources_in ms) = Rises-from_sorted (sources_in ms) ascends in
    let g : ℕ → Bool = λ k. is_among k named in
    let tells : Tells 0 (source_state_among (member_entries ms)) g ms (ascending named) = record {
      source_states = λ k le. refl;
      names = λ k le. sym (is_among-ascending k named);
    } in
    values_of_cases (source_state_among (member_entries ms)) g 0 ms (ascending named) (AtLeast-zero (sources_in ms)) (AtLeast-zero (ascending named)) rises (Rises-ascending named) tells
    ∙ ap (map (told_of (member_entries ms) named)) (keys_of_cases ms named rises)

-- ---- what a test or a change makes of values

module _ {X Y : Type 0} (v : X → Y) where
  filter_map-of_map : {Z : Type 0} (h : Y → Option Z) (xs : List X) → filter_map h (map v xs) ≡ filter_map (λ x. h (v x)) xs
  filter_map-of_map h [] = refl
  filter_map-of_map h (x ∷ xs) = ap (cons_option (h (v x))) (filter_map-of_map h xs)

  filter-of_map : (p : Y → Bool) (xs : List X) → filter p (map v xs) ≡ map v (filter (λ x. p (v x)) xs)
  filter-of_map p [] = refl
  filter-of_map p (x ∷ xs) = elim (p (v x)) as (λ b. cond b (v x ∷ filter p (map v xs)) (filter p (map v xs)) ≡ map v (cond b (x ∷ filter (λ x. p (v x)) xs) (filter (λ x. p (v x)) xs))) [
    | true ↦ ap (λ ys. v x ∷ ys) (filter-of_map p xs)
    | false ↦ filter-of_map p xs
  ]

  map-of_map : {Z : Type 0} (h : Y → Z) (xs : List X) → map h (map v xs) ≡ map (λ x. h (v x)) xs
  map-of_map h [] = refl
  map-of_map h (x ∷ xs) = ap (λ ys. h (v x) ∷ ys) (map-of_map h xs)

map_itself : (ns : List ℕ) → map (λ n. n) ns ≡ ns
map_itself [] = refl
map_itself (n ∷ ns) = ap (λ ms. n ∷ ms) (map_itself ns)

module _ (full : ℕ) (timer : Option ℕ) (type : RecordType) where
  abbrev pub entry_told : CaseValue → Option records.Member
  entry_told v = records.member_of v.0 (source_state_after full timer type v.1 v.2)

  pub entries_are : (ms : List Member) (named : List ℕ) → IsAscending (member_entries ms)
      → filter_map (λ c. entry_told (case_value c)) (cases_in ms (ascending named))
      ≡ filter_map (λ k. entry_told (told_of (member_entries ms) named k)) (ascending (sources_in ms ++ named))
  entries_are ms named ascends =
      sym (filter_map-of_map case_value entry_told (cases_in ms (ascending named)))
      ∙ ap (filter_map entry_told) (values_are ms named ascends)
      ∙ filter_map-of_map (told_of (member_entries ms) named) entry_told (ascending (sources_in ms ++ named))

module _ (timer : Option ℕ) (type : RecordType) where
  abbrev pub is_told_asked : CaseValue → Bool
  is_told_asked v = is_asked timer type v.1 v.2

  pub asked_are : (ms : List Member) (named : List ℕ) → IsAscending (member_entries ms)
      → bits_of (map (λ (c : Case). c.source) (filter (λ c. is_told_asked (case_value c)) (cases_in ms (ascending named))))
      ≡ filter (λ k. is_told_asked (told_of (member_entries ms) named k)) (ascending (sources_in ms ++ named))
  asked_are ms named ascends =
      let cs : List Case = cases_in ms (ascending named) in
      let all : List ℕ = ascending (sources_in ms ++ named) in
      let asked : List Case = filter (λ c. is_told_asked (case_value c)) cs in
      let first : CaseValue → ℕ = λ v. v.0 in
      map-of_map (λ (c : Case). c.source) (λ a. a.bits) asked
      ∙ sym (map-of_map case_value first asked)
      ∙ ap (map first) (sym (filter-of_map case_value is_told_asked cs) ∙ ap (filter is_told_asked) (values_are ms named ascends) ∙ filter-of_map (told_of (member_entries ms) named) is_told_asked all)
      ∙ map-of_map (told_of (member_entries ms) named) first (filter (λ k. is_told_asked (told_of (member_entries ms) named k)) all)
      ∙ map_itself (filter (λ k. is_told_asked (told_of (member_entries ms) named k)) all)

-- ---- a record that stays

abbrev pub entry_before : CaseValue → Option records.Member
entry_before v = records.member_of v.0 v.1

entry_of_member : (b : Bool) (m : Member) → entry_before (case_value (member_case b m)) ≡ Some (member_entry m)
entry_of_member b m = go m.end
  where
    go : (end : Option ℕ) → records.member_of m.source.bits (source_state_of (source_state_at end)) ≡ Some (m.source.bits, end)
    go None = refl
    go (Some end) = refl

none_of_names : (ns : List ℕ) → filter_map (λ c. entry_before (case_value c)) (map new_case ns) ≡ []
none_of_names [] = refl
none_of_names (n ∷ ns) = none_of_names ns

stays_step : (m : Member) (ms : List Member) (n : ℕ) (ns : List ℕ) (b c : Bool)
    → filter_map (λ c. entry_before (case_value c)) (cases_in (m ∷ ms) ns) ≡ member_entries (m ∷ ms)
    → filter_map (λ c. entry_before (case_value c)) (cases_in ms ns) ≡ member_entries ms
    → filter_map (λ c. entry_before (case_value c)) (cases_in ms (n ∷ ns)) ≡ member_entries ms
    → filter_map (λ c. entry_before (case_value c)) (cond b (new_case n ∷ cases_with m (cases_in ms) ns) (cond c (member_case true m ∷ cases_in ms ns) (member_case false m ∷ cases_in ms (n ∷ ns)))) ≡ member_entries (m ∷ ms)
stays_step m ms n ns true c earlier both later = earlier
stays_step m ms n ns false true earlier both later = λ i. cons_option (entry_of_member true m i) (both i)
stays_step m ms n ns false false earlier both later = λ i. cons_option (entry_of_member false m i) (later i)

members_stay : (ms : List Member) (ns : List ℕ) → filter_map (λ c. entry_before (case_value c)) (cases_in ms ns) ≡ member_entries ms
members_stay [] ns = none_of_names ns
members_stay (m ∷ ms) [] = λ i. cons_option (entry_of_member false m i) (members_stay ms [] i)
members_stay (m ∷ ms) (n ∷ ns) =
    stays_step m ms n ns (nat_lt n m.source.bits) (n == m.source.bits) (members_stay (m ∷ ms) ns) (members_stay ms ns) (members_stay ms (n ∷ ns))

-- ---- the tables

abbrev pub all_of : List records.Member → List ℕ → List ℕ
all_of es named = ascending (map (λ (e : records.Member). e.0) es ++ named)

abbrev pub record_after : ℕ → Option ℕ → RecordType → List records.Member → List ℕ → GroupRecord
record_after full timer type es named = record {
  timer = timer_after full timer type;
  members = filter_map (λ k. entry_told full timer type (told_of es named k)) (all_of es named);
}

abbrev pub queries_after : Option ℕ → RecordType → List records.Member → List ℕ → List records.Asked
queries_after timer type es named =
    cond (asks_sources type) (asked_in_order (Some (filter (λ k. is_told_asked timer type (told_of es named k)) (all_of es named))) (asks_group timer type)) []

excluded_or_kept : (f : records.SourceState) → cond (records.is_running f) f records.Excluded ≡ kept_or records.Excluded f
excluded_or_kept records.Absent = refl
excluded_or_kept records.Excluded = refl
excluded_or_kept (records.Included end) = refl

kept_or_until_is : (end : ℕ) (f : records.SourceState) → records.kept_or_until end f ≡ kept_or (records.Included end) f
kept_or_until_is end records.Absent = refl
kept_or_until_is end records.Excluded = refl
kept_or_until_is end (records.Included e) = refl

abbrev record_of : Option ℕ → List records.Member → GroupRecord
record_of timer es = record { timer = timer; members = es }

abbrev names_of : List ℕ → ℕ → Bool
names_of named src = is_among src named

module _ (es : List records.Member) (named : List ℕ) where
  -- a record of each source's state, whichever way it is told
  same_source_states : (timer : Option ℕ) (queries : List records.Asked) (f g : ℕ → records.SourceState) → ((k : ℕ) → f k ≡ g k)
      → ◌≡◌ {A = GroupRecord × List records.Asked} (record_with timer f (all_of es named), queries) (record_with timer g (all_of es named), queries)
  same_source_states timer queries f g same = λ i. (record_with timer (λ k. same k i) (all_of es named), queries)

  abbrev pub Applies : ℕ → Option ℕ → RecordType → Type 0
  Applies full timer type =
      apply_record full (record_of timer es) type named ≡ (record_after full timer type es named, queries_after timer type es named)

  in_include : (full : ℕ) (type : RecordType)
      → filter_map (λ k. entry_before (told_of es named k)) (all_of es named) ≡ es → Applies full None type
  unfolding apply_record from_include record_with source_state_in
  in_include full RecordType.IsInclude stays = refl
  in_include full RecordType.Allow stays = refl
  in_include full RecordType.ToInclude stays = refl
  in_include full RecordType.IsExclude stays =
      same_source_states (Some full) [] _ (λ k. cond (is_among k named) (kept_or records.Excluded (source_state_among es k)) records.Absent)
      (λ k. ap (λ f. cond (is_among k named) f records.Absent) (excluded_or_kept (source_state_among es k)))
  in_include full RecordType.ToExclude stays =
      same_source_states (Some full) _ _ (λ k. cond (is_among k named) (kept_or records.Excluded (source_state_among es k)) records.Absent)
      (λ k. ap (λ f. cond (is_among k named) f records.Absent) (excluded_or_kept (source_state_among es k)))
  in_include full RecordType.Block stays =
      ap (λ (ms : List records.Member). (record_of None ms, asks (records.in_both (record_of None es) (names_of named)) (all_of es named))) (sym stays)

  in_exclude : (full end : ℕ) (type : RecordType) → Applies full (Some end) type
  unfolding apply_record from_exclude record_with source_state_in
  in_exclude full end RecordType.IsInclude = refl
  in_exclude full end RecordType.Allow = refl
  in_exclude full end RecordType.ToInclude = refl
  in_exclude full end RecordType.IsExclude =
      same_source_states (Some full) [] _ (λ k. cond (is_among k named) (kept_or (records.Included full) (source_state_among es k)) records.Absent)
      (λ k. ap (λ f. cond (is_among k named) f records.Absent) (kept_or_until_is full (source_state_among es k)))
  in_exclude full end RecordType.ToExclude =
      same_source_states (Some full) _ _ (λ k. cond (is_among k named) (kept_or (records.Included end) (source_state_among es k)) records.Absent)
      (λ k. ap (λ f. cond (is_among k named) f records.Absent) (kept_or_until_is end (source_state_among es k)))
  in_exclude full end RecordType.Block =
      same_source_states (Some end) _ _ (λ k. cond (is_among k named) (kept_or (records.Included end) (source_state_among es k)) (source_state_among es k))
      (λ k. ap (λ f. cond (is_among k named) f (source_state_among es k)) (kept_or_until_is end (source_state_among es k)))

  applies : (full : ℕ) (timer : Option ℕ) (type : RecordType)
      → filter_map (λ k. entry_before (told_of es named k)) (all_of es named) ≡ es → Applies full timer type
  applies full None type stays = in_include full type stays
  applies full (Some end) type stays = in_exclude full end type

-- what the rule makes of the cases is the record and the queries after the message
pub applied : (rule : Rule) (ms : List Member) (named : List ℕ) → IsAscending (member_entries ms)
    → apply_record rule.full (record { timer = rule.timer; members = member_entries ms }) rule.record_type named
    ≡ (
      record { timer = timer_after rule.full rule.timer rule.record_type; members = filter_map (entry_after rule) (cases_in ms (ascending named)) },
      asked_after rule (cases_in ms (ascending named)),
    )
applied rule ms named ascends =
    let cs : List Case = cases_in ms (ascending named) in
    let es : List records.Member = member_entries ms in
    let stays : filter_map (λ k. entry_before (told_of es named k)) (all_of es named) ≡ es =
    sym (filter_map-of_map (told_of es named) entry_before (all_of es named))
    ∙ ap (filter_map entry_before) (sym (values_are ms named ascends))
    ∙ filter_map-of_map case_value entry_before cs ∙ members_stay ms (ascending named) in
    applies es named rule.full rule.timer rule.record_type stays
    ∙ (λ i. (
      record { timer = timer_after rule.full rule.timer rule.record_type; members = sym (entries_are rule.full rule.timer rule.record_type ms named ascends) i },
      cond (asks_sources rule.record_type) (asked_in_order (Some (sym (asked_are rule.timer rule.record_type ms named ascends) i)) (asks_group rule.timer rule.record_type)) [],
    ))

-- ---- the order of what is made

all_of_entries : (P : ℕ → Type 0) (f : ℕ → records.SourceState) (ns : List ℕ) → AllByRecursion P ns
    → AllByRecursion P (map (λ (e : records.Member). e.0) (filter_map (λ k. records.member_of k (f k)) ns))
all_of_entries P f [] all = tt
all_of_entries P f (n ∷ ns) all = go (f n) (all_of_entries P f ns all.1)
  where
    go : (source_state : records.SourceState) → AllByRecursion P (map (λ (e : records.Member). e.0) (filter_map (λ k. records.member_of k (f k)) ns))
        → AllByRecursion P (map (λ (e : records.Member). e.0) (cons_option (records.member_of n source_state) (filter_map (λ k. records.member_of k (f k)) ns)))
    go records.Absent rest = rest
    go records.Excluded rest = (all.0, rest)
    go (records.Included end) rest = (all.0, rest)

entries_ascend : (f : ℕ → records.SourceState) (ns : List ℕ) → IsStrictlySortedBy nat_cmp ns
    → IsAscending (filter_map (λ k. records.member_of k (f k)) ns)
unfolding IsStrictlySortedBy
entries_ascend f [] sorted = tt
entries_ascend f (n ∷ ns) sorted = go (f n) (all_of_entries (λ m. nat_cmp n m ≡ Less) f ns sorted.0) (entries_ascend f ns sorted.1)
  where
    go : (source_state : records.SourceState) → AllByRecursion (λ m. nat_cmp n m ≡ Less) (map (λ (e : records.Member). e.0) (filter_map (λ k. records.member_of k (f k)) ns))
        → IsAscending (filter_map (λ k. records.member_of k (f k)) ns)
        → IsAscending (cons_option (records.member_of n source_state) (filter_map (λ k. records.member_of k (f k)) ns))
    go records.Absent all rest = rest
    go records.Excluded all rest = (all, rest)
    go (records.Included end) all rest = (all, rest)

pub IsAscending-after : (rule : Rule) (ms : List Member) (named : List ℕ) → IsAscending (member_entries ms)
    → IsAscending (filter_map (entry_after rule) (cases_in ms (ascending named)))
IsAscending-after rule ms named ascends =
    subst IsAscending (sym (entries_are rule.full rule.timer rule.record_type ms named ascends))
    (entries_ascend (λ k. source_state_after rule.full rule.timer rule.record_type (source_state_among (member_entries ms) k) (is_among k named))
    (all_of (member_entries ms) named) (sorted_from_Rises _ (Rises-ascending (sources_in ms ++ named))))
