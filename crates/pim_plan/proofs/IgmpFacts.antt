-- Which facts queries and reports make: queries none, a report those of the sources that its records name.
use Rattle.std.{proofs.{Common.{◌≡◌, ℕ, ◌+◌, Bool, true, false, cond, List, [], ◌∷◌, ◌&&◌, ◌++◌, ◌||◌, ◌==◌, filter, flat_map, fold, map, not, nat_lt, ◌-◌, Option, Some, None, option_and_then, refl, ap, sym, ◌∙◌}, lemmas.{Bool.{or_left, or_right}, List.Folds.list_any-append}}, specs.{List.{AllByRecursion, filter_map, list_any}, Option.option_map_or, Prelude.if◌then◌else◌}}
use Rattle.igmp_wire.{specs.{Codes.code_value, Values.{Query as QueryValue, Record}, declared.report.RecordType.RecordType}}
use Rattle.pim_types.{specs.{declared.fact.{GroupRecordRow.GroupRecordRow, GroupRepeatRow.GroupRepeatRow, Key.Key, SendingRow.SendingRow, SourceRecordRow.SourceRecordRow, SourceRepeatRow.SourceRepeatRow}, Keys.{is_on, names_source, same_key, source_in, source_key, star_key}}, proofs.Keys.same_key_same}
use Rattle.pim_model.{specs.{Full.{reported_groups, reported_sources}, Messages.Message, Querier.{each_in_turn, exceeds, group_membership_interval, is_lower_querier, is_querier, is_sending, is_skipped, lower_group, lower_queried, lower_sources, lowered, next_sending, one_sent, querier_elected, query_asked, query_end, query_group, query_seen, query_sources, record_seen, report_seen, robustness, send_sources, source_end, sources_sent}, Records.{AskGroup, AskSources, Asked, Excluded, SourceState, Absent, GroupRecord, Member, Included, apply_record, from_exclude, from_include, is_at_group, is_no_record, member_of, members_of, put_member, record_of, record_with, with_members, with_record, with_repeats_of_rows}, State.State, Tables.{Table, ascending, drop_at, drop_where, has_row, is_among, is_empty_list, keys_in, put, row_at, set_row}, Upstream.fact_keys}}
use Rattle.law_settled.{proofs.{FewerFacts.{IsFewer, KeysFewer, Passes, both_fewer, fewer_both, fewer_so, no_other, row_without, rows_so, rows_without, same_rows, table_fewer}, ListLaws.{any_among_all, any_more, each_both, each_filter, each_map, each_member, each_more, each_passes, either}, Numbers.any_ascending, Parts.{Asserts, Downstreams, GroupRecords, GroupRepeats, Interfaces, JoinTimers, Neighbours, OverrideTimers, Part, Queriers, Registers, Row, Sendings, SourceRecords, SourceRepeats, Sources, rows, with_rows}, RecordsKept.{any_of_members, equal_forms}, RowLaws.{any_of_put, each_put}, TableLaws.{any_of_filter_map, any_of_map, row_is_there}, TurnLaws.{kept_by_fold, kept_in_turn}}, specs.Laws.is_under_source}

-- rows that are changed in their places
module _ {R : Type 0} (test : Key × R → Bool) (change : Key × R → R) where
  placed_keys : (t : Table R) → keys_in (map (λ e. if test e then (e.0, change e) else e) t) ≡ keys_in t
  unfolding keys_in
  placed_keys [] = refl
  placed_keys (e ∷ t) = one (test e) (placed_keys t)
    where
      one : (b : Bool) → keys_in (map (λ x. if test x then (x.0, change x) else x) t) ≡ keys_in t
          → (if b then (let x : Key × R = (e.0, change e) in x) else e).0
          ∷ keys_in (map (λ x. if test x then (x.0, change x) else x) t)
          ≡ e.0 ∷ keys_in t
      one true later = ap (λ (ks : List Key). e.0 ∷ ks) later
      one false later = ap (λ (ks : List Key). e.0 ∷ ks) later

  placed_fewer : (t : Table R) → KeysFewer t (map (λ e. if test e then (e.0, change e) else e) t)
  placed_fewer t p e = sym (ap (λ (ks : List Key). list_any p ks) (placed_keys t)) ∙ e

-- ---- queries

module _ (i : ℕ) where
  elected_fewer : (s : State) (qrv qqi : ℕ) → IsFewer s (querier_elected s i qrv qqi)
  unfolding querier_elected fact_keys
  elected_fewer s qrv qqi =
      let one : State = record s { group_repeats = drop_where (is_on i) s.group_repeats } in
      let two : State = record one { source_repeats = drop_where (is_on i) s.source_repeats } in
      let three : State = record two { sendings = drop_where (is_on i) s.sendings } in
      fewer_both s one _ (table_fewer GroupRepeats s _ (rows_without (is_on i) s.group_repeats))
      (fewer_both one two _ (table_fewer SourceRepeats one _ (rows_without (is_on i) s.source_repeats))
      (fewer_both two three _ (table_fewer Sendings two _ (rows_without (is_on i) s.sendings))
      (no_other three (querier_elected s i qrv qqi) refl)))

  lower_group_fewer : (s : State) (g end : ℕ) → IsFewer s (lower_group s i g end)
  unfolding lower_group
  lower_group_fewer s g end =
      table_fewer GroupRecords s _
      (placed_fewer (λ e. same_key (star_key i g) e.0) (λ e. record { end = lowered end (e.1).end }) s.group_records)

  lower_sources_fewer : (s : State) (g : ℕ) (sources : List ℕ) (end : ℕ) → IsFewer s (lower_sources s i g sources end)
  unfolding lower_sources
  lower_sources_fewer s g sources end =
      table_fewer SourceRecords s _
      (placed_fewer (λ e. is_at_group i g e.0 && is_among (source_in e.0) sources)
      (λ e. record { end = lowered end (e.1).end }) s.source_records)

  lower_queried_fewer : (s : State) (q : QueryValue) → IsFewer s (lower_queried s i q)
  unfolding lower_queried
  lower_queried_fewer s q =
      fewer_so (q.suppress || (q.group == 0)) s s _ (no_other s s refl)
      (fewer_so (is_empty_list q.sources) s _ _ (lower_group_fewer s q.group (query_end s i))
      (lower_sources_fewer s q.group q.sources (query_end s i)))

  pub query_leaves_facts : (s : State) (from : ℕ) (q : QueryValue) → IsFewer s (query_seen s i from q)
  unfolding query_seen
  query_leaves_facts s from q =
      let elected : State = querier_elected s i q.robustness (code_value q.interval_code) in
      fewer_both s (if is_lower_querier s i from then elected else s) _
      (fewer_so (is_lower_querier s i from) s elected s (elected_fewer s q.robustness (code_value q.interval_code))
      (no_other s s refl))
      (lower_queried_fewer (if is_lower_querier s i from then elected else s) q)

-- ---- reports

module _ (p : Key → Bool) where
  -- no fact passes, and each record of a source is under its key
  pub record NonePasses (s : State) : Type 0 where
    pub facts : list_any p (fact_keys s) ≡ false
    pub under : AllByRecursion (λ (e : Key × SourceRecordRow). is_under_source e ≡ true) s.source_records

  abbrev Pass : State → State → Type 0
  Pass s t = Passes p (fact_keys s) (fact_keys t)

  none_after : (xs ys : List Key) → Passes p xs ys → list_any p xs ≡ false → list_any p ys ≡ false
  none_after xs ys pass none = go (list_any p ys) refl
    where
      go : (b : Bool) → list_any p ys ≡ b → list_any p ys ≡ false
      go true is = let no : false ≡ true = sym none ∙ pass is in cc
      go false is = is

  still_none : (xs ys : List Key) → list_any p ys ≡ false → Passes p xs ys
  still_none xs ys none e = let no : false ≡ true = sym none ∙ e in cc

  -- tables of which none has a key that passes where the one before had none
  by_tables : (s t : State) → ((part : Part) → Passes p (keys_in (rows part s)) (keys_in (rows part t))) → Pass s t
  unfolding fact_keys
  by_tables s t less =
      both_fewer p _ _ _ _ (both_fewer p _ _ _ _ (both_fewer p _ _ _ _ (both_fewer p _ _ _ _ (both_fewer p _ _ _ _
      (both_fewer p _ _ _ _ (both_fewer p _ _ _ _ (both_fewer p _ _ _ _ (both_fewer p _ _ _ _ (both_fewer p _ _ _ _
      (less GroupRecords) (less SourceRecords)) (less GroupRepeats)) (less SourceRepeats)) (less Sendings))
      (less Downstreams)) (less Asserts)) (less JoinTimers)) (less OverrideTimers)) (less Sources)) (less Registers)

  one_passes : (part : Part) (s : State) (t : Table (Row part)) → Passes p (keys_in (rows part s)) (keys_in t)
      → (q : Part) → Passes p (keys_in (rows q s)) (keys_in (rows q (with_rows part s t)))
  one_passes Interfaces s t f Interfaces = f
  one_passes Neighbours s t f Neighbours = f
  one_passes Queriers s t f Queriers = f
  one_passes GroupRecords s t f GroupRecords = f
  one_passes SourceRecords s t f SourceRecords = f
  one_passes GroupRepeats s t f GroupRepeats = f
  one_passes SourceRepeats s t f SourceRepeats = f
  one_passes Sendings s t f Sendings = f
  one_passes Downstreams s t f Downstreams = f
  one_passes Asserts s t f Asserts = f
  one_passes JoinTimers s t f JoinTimers = f
  one_passes OverrideTimers s t f OverrideTimers = f
  one_passes Sources s t f Sources = f
  one_passes Registers s t f Registers = f
  one_passes part s t f q = λ e. e

  -- no fact passes where one table has other rows, of which none does
  table_none : (part : Part) (s : State) (t : Table (Row part)) → list_any p (fact_keys s) ≡ false
      → list_any p (keys_in t) ≡ false → list_any p (fact_keys (with_rows part s t)) ≡ false
  table_none part s t facts none =
      none_after (fact_keys s) (fact_keys (with_rows part s t))
      (by_tables s (with_rows part s t) (one_passes part s t (still_none (keys_in (rows part s)) (keys_in t) none)))
      facts

  fewer_none : (s t : State) → IsFewer s t → list_any p (fact_keys s) ≡ false → list_any p (fact_keys t) ≡ false
  fewer_none s t less facts = none_after (fact_keys s) (fact_keys t) (less.passed p) facts

  -- ---- the tables of IGMP

  in_left : (xs ys : List Key) → list_any p (xs ++ ys) ≡ false → list_any p xs ≡ false
  in_left xs ys e = go (list_any p xs) refl (sym (list_any-append p xs ys) ∙ e)
    where
      go : (b : Bool) → list_any p xs ≡ b → (list_any p xs || list_any p ys) ≡ false → list_any p xs ≡ false
      go true is f = let no : true ≡ false = sym (or_left (list_any p xs) (list_any p ys) is) ∙ f in cc
      go false is f = is

  in_right : (xs ys : List Key) → list_any p (xs ++ ys) ≡ false → list_any p ys ≡ false
  in_right xs ys e = go (list_any p ys) refl (sym (list_any-append p xs ys) ∙ e)
    where
      go : (b : Bool) → list_any p ys ≡ b → (list_any p xs || list_any p ys) ≡ false → list_any p ys ≡ false
      go true is f = let no : true ≡ false = sym (or_right (list_any p xs) (list_any p ys) is) ∙ f in cc
      go false is f = is

  igmp_keys : (s : State) → list_any p (fact_keys s) ≡ false
      → list_any p (keys_in s.group_records ++ keys_in s.source_records ++ keys_in s.group_repeats
      ++ keys_in s.source_repeats ++ keys_in s.sendings) ≡ false
  unfolding fact_keys
  igmp_keys s none =
      in_left _ (keys_in s.downstream) (in_left _ (keys_in s.asserts) (in_left _ (keys_in s.join_timers)
      (in_left _ (keys_in s.override_timers) (in_left _ (keys_in s.sources) (in_left _ (keys_in s.registers) none)))))

  module _ (s : State) (none : list_any p (fact_keys s) ≡ false) where
    no_sending : list_any p (keys_in s.sendings) ≡ false
    no_sending = in_right _ (keys_in s.sendings) (igmp_keys s none)

    no_source_repeat : list_any p (keys_in s.source_repeats) ≡ false
    no_source_repeat = in_right _ (keys_in s.source_repeats) (in_left _ (keys_in s.sendings) (igmp_keys s none))

    no_group_repeat : list_any p (keys_in s.group_repeats) ≡ false
    no_group_repeat =
        in_right _ (keys_in s.group_repeats)
        (in_left _ (keys_in s.source_repeats) (in_left _ (keys_in s.sendings) (igmp_keys s none)))

    no_source_record : list_any p (keys_in s.source_records) ≡ false
    no_source_record =
        in_right _ (keys_in s.source_records) (in_left _ (keys_in s.group_repeats)
        (in_left _ (keys_in s.source_repeats) (in_left _ (keys_in s.sendings) (igmp_keys s none))))

    no_group_record : list_any p (keys_in s.group_records) ≡ false
    no_group_record =
        in_left (keys_in s.group_records) (keys_in s.source_records) (in_left _ (keys_in s.group_repeats)
        (in_left _ (keys_in s.source_repeats) (in_left _ (keys_in s.sendings) (igmp_keys s none))))

  put_none : {R : Type 0} (k : Key) (row : R) (t : Table R) → p k ≡ false → list_any p (keys_in t) ≡ false
      → list_any p (keys_in (put t k row)) ≡ false
  unfolding keys_in
  put_none k row t away none =
      none_after (keys_in t) (keys_in (put t k row))
      (λ e. any_of_map p (λ x. x.0) t
      ∙ either (p k) (list_any (λ x. p x.0) t) (λ f. let no : false ≡ true = sym away ∙ f in cc) (λ f. f)
      (any_of_put k row (λ x. p x.0) t (sym (any_of_map p (λ x. x.0) (put t k row)) ∙ e)))
      none

  -- ---- a record of a group

  module _ (i g : ℕ) (star : p (star_key i g) ≡ false) where
    abbrev passes_at : ℕ → Bool
    passes_at n = p (source_key i g n)

    abbrev IsUnder : Key × SourceRecordRow → Type 0
    IsUnder e = is_under_source e ≡ true

    -- a source of the record stands for a row of its group
    no_member : (s : State) → NonePasses s
        → list_any (λ (m : Member). passes_at m.0) (record_of s i g).members ≡ false
    unfolding record_of members_of keys_in
    no_member s none = go (list_any (λ (m : Member). passes_at m.0) (record_of s i g).members) refl
      where
        rows : Table SourceRecordRow
        rows = s.source_records

        Own : Key × SourceRecordRow → Type 0
        Own e = (IsUnder e × (p e.0 ≡ true → list_any (λ x. p x.0) rows ≡ true)) × (is_at_group i g e.0 ≡ true)

        each : AllByRecursion Own (filter (λ e. is_at_group i g e.0) rows)
        each =
            each_both (λ e. IsUnder e × (p e.0 ≡ true → list_any (λ x. p x.0) rows ≡ true))
            (λ e. is_at_group i g e.0 ≡ true) Own (λ e f h. (f, h)) (filter (λ e. is_at_group i g e.0) rows)
            (each_filter _ (λ e. is_at_group i g e.0) rows
            (each_both IsUnder (λ e. p e.0 ≡ true → list_any (λ x. p x.0) rows ≡ true) _ (λ e f h. (f, h)) rows
            none.under (each_member (λ x. p x.0) rows)))
            (each_passes (λ e. is_at_group i g e.0) rows)

        there : (e : Key × SourceRecordRow) → Own e → passes_at (source_in e.0) ≡ true
            → list_any (λ x. p x.0) rows ≡ true
        there e own hit = own.0.1 (ap p (sym (equal_forms i g e own.1 own.0.0)) ∙ hit)

        go : (b : Bool) → list_any (λ (m : Member). passes_at m.0) (record_of s i g).members ≡ b
            → list_any (λ (m : Member). passes_at m.0) (record_of s i g).members ≡ false
        go true is =
            let found : list_any (λ x. p x.0) rows ≡ true =
            any_among_all Own (λ e. passes_at (source_in e.0)) there (filter (λ e. is_at_group i g e.0) rows) each
            (sym (any_of_map (λ (m : Member). passes_at m.0)
            (λ (x : Key × SourceRecordRow). let m : Member = (source_in x.0, (x.1).end) in m)
            (filter (λ e. is_at_group i g e.0) rows)) ∙ is) in
            let no : false ≡ true =
            sym (sym (any_of_map p (λ x. x.0) rows) ∙ no_source_record s none.facts) ∙ found in cc
        go false is = is

    -- what becomes of a record has no other sources than it had and those that are named
    fated : (timer : Option ℕ) (source_state : ℕ → SourceState) (all : List ℕ) → list_any passes_at all ≡ false
        → list_any (λ (m : Member). passes_at m.0) (record_with timer source_state all).members ≡ false
    unfolding record_with
    fated timer source_state all none = go (list_any (λ (m : Member). passes_at m.0) (record_with timer source_state all).members) refl
      where
        by : (f : SourceState) (n : ℕ) → option_map_or (λ (m : Member). passes_at m.0) (member_of n f) false ≡ true
            → passes_at n ≡ true
        by Absent n e = cc
        by Excluded n e = e
        by (Included end) n e = e

        go : (b : Bool) → list_any (λ (m : Member). passes_at m.0) (record_with timer source_state all).members ≡ b
            → list_any (λ (m : Member). passes_at m.0) (record_with timer source_state all).members ≡ false
        go true is =
            let found : list_any passes_at all ≡ true =
            any_more (λ n. option_map_or (λ (m : Member). passes_at m.0) (member_of n (source_state n)) false) passes_at
            (λ n. by (source_state n) n) all
            (sym (any_of_filter_map (λ (m : Member). passes_at m.0) (λ n. member_of n (source_state n)) all) ∙ is) in
            let no : false ≡ true = sym none ∙ found in cc
        go false is = is

    both_none : (ms : List Member) (named : List ℕ) → list_any (λ (m : Member). passes_at m.0) ms ≡ false
        → list_any passes_at named ≡ false
        → list_any passes_at (ascending (map (λ (m : Member). m.0) ms ++ named)) ≡ false
    both_none ms named first second =
        any_ascending passes_at (map (λ (m : Member). m.0) ms ++ named)
        ∙ list_any-append passes_at (map (λ (m : Member). m.0) ms) named
        ∙ (λ j. (any_of_map passes_at (λ (m : Member). m.0) ms ∙ first) j || second j)

    applied_none : (full : ℕ) (timer : Option ℕ) (ms : List Member) (type : RecordType) (named : List ℕ)
        → list_any (λ (m : Member). passes_at m.0) ms ≡ false → list_any passes_at named ≡ false
        → list_any (λ (m : Member). passes_at m.0)
        (apply_record full (record { timer = timer; members = ms }) type named).0.members ≡ false
    unfolding apply_record from_include from_exclude
    applied_none full None ms RecordType.Block named first second = first
    applied_none full None ms RecordType.IsInclude named first second = fated _ _ _ (both_none ms named first second)
    applied_none full None ms RecordType.IsExclude named first second = fated _ _ _ (both_none ms named first second)
    applied_none full None ms RecordType.ToInclude named first second = fated _ _ _ (both_none ms named first second)
    applied_none full None ms RecordType.ToExclude named first second = fated _ _ _ (both_none ms named first second)
    applied_none full None ms RecordType.Allow named first second = fated _ _ _ (both_none ms named first second)
    applied_none full (Some end) ms RecordType.Block named first second = fated _ _ _ (both_none ms named first second)
    applied_none full (Some end) ms RecordType.IsInclude named first second = fated _ _ _ (both_none ms named first second)
    applied_none full (Some end) ms RecordType.IsExclude named first second = fated _ _ _ (both_none ms named first second)
    applied_none full (Some end) ms RecordType.ToInclude named first second = fated _ _ _ (both_none ms named first second)
    applied_none full (Some end) ms RecordType.ToExclude named first second = fated _ _ _ (both_none ms named first second)
    applied_none full (Some end) ms RecordType.Allow named first second = fated _ _ _ (both_none ms named first second)

    -- ---- the rows of a record

    members_none : (ms : List Member) (t : Table SourceRecordRow) → list_any (λ (m : Member). passes_at m.0) ms ≡ false
        → list_any p (keys_in t) ≡ false → list_any p (keys_in (fold (put_member i g) t ms)) ≡ false
    unfolding keys_in
    members_none ms t first second = go (list_any p (keys_in (fold (put_member i g) t ms))) refl
      where
        rows_none : list_any (λ (x : Key × SourceRecordRow). p x.0) t ≡ false
        rows_none = sym (any_of_map p (λ (x : Key × SourceRecordRow). x.0) t) ∙ second

        go : (b : Bool) → list_any p (keys_in (fold (put_member i g) t ms)) ≡ b
            → list_any p (keys_in (fold (put_member i g) t ms)) ≡ false
        go true is =
            either (list_any (λ (m : Member). passes_at m.0) ms) (list_any (λ (x : Key × SourceRecordRow). p x.0) t)
            (λ f. let no : false ≡ true = sym first ∙ f in cc)
            (λ f. let no : false ≡ true = sym rows_none ∙ f in cc)
            (any_of_members (λ (x : Key × SourceRecordRow). p x.0) i g ms t
            (sym (any_of_map p (λ (x : Key × SourceRecordRow). x.0) (fold (put_member i g) t ms)) ∙ is))
        go false is = is

    members_under : (ms : List Member) (t : Table SourceRecordRow) → AllByRecursion IsUnder t
        → AllByRecursion IsUnder (fold (put_member i g) t ms)
    members_under ms t under =
        kept_by_fold (put_member i g) (λ u. AllByRecursion IsUnder u)
        (λ u m kept. each_put (source_key i g m.0) (record { end = m.1 }) IsUnder (same_key_same (source_key i g m.0)) u kept)
        ms t under

    repeats_fewer : (s : State) → IsFewer s (with_repeats_of_rows s i g)
    unfolding with_repeats_of_rows
    repeats_fewer s =
        let there : Bool = has_row s.group_records (star_key i g) in
        let sendings : Table SendingRow =
        drop_where (λ k. is_at_group i g k && not (has_row s.source_records k)) s.sendings in
        let sends : Bool = list_any (λ (e : Key × SendingRow). is_at_group i g e.0) sendings in
        let groups : Table GroupRepeatRow = cond there s.group_repeats (drop_at s.group_repeats (star_key i g)) in
        let sources : Table SourceRepeatRow = cond sends s.source_repeats (drop_at s.source_repeats (star_key i g)) in
        let one : State = record s { group_repeats = groups } in
        let two : State = record one { source_repeats = sources } in
        fewer_both s one (with_repeats_of_rows s i g)
        (table_fewer GroupRepeats s groups
        (rows_so there s.group_repeats s.group_repeats _ (same_rows s.group_repeats) (row_without _ s.group_repeats)))
        (fewer_both one two (with_repeats_of_rows s i g)
        (table_fewer SourceRepeats one sources
        (rows_so sends s.source_repeats s.source_repeats _ (same_rows s.source_repeats)
        (row_without _ s.source_repeats)))
        (table_fewer Sendings two sendings
        (rows_without (λ k. is_at_group i g k && not (has_row s.source_records k)) s.sendings)))

    record_none : (s : State) (r : GroupRecord) → NonePasses s → list_any (λ (m : Member). passes_at m.0) r.members ≡ false
        → NonePasses (with_record s i g r)
    unfolding with_record with_members with_repeats_of_rows drop_where
    record_none s r none members =
        let timed : State = record s { group_records = put s.group_records (star_key i g) (record { end = r.timer }) } in
        let groups : Table GroupRecordRow =
        cond (is_no_record r) (drop_at timed.group_records (star_key i g)) timed.group_records in
        let one : State = record timed { group_records = groups } in
        let rows : Table SourceRecordRow =
        fold (put_member i g) (drop_where (is_at_group i g) s.source_records) r.members in
        let written : State = record one { source_records = rows } in
        let first : list_any p (fact_keys timed) ≡ false =
        table_none GroupRecords s timed.group_records none.facts
        (put_none (star_key i g) (record { end = r.timer }) s.group_records star (no_group_record s none.facts)) in
        let second : list_any p (fact_keys one) ≡ false =
        fewer_none timed one
        (table_fewer GroupRecords timed groups
        (rows_so (is_no_record r) timed.group_records _ timed.group_records (row_without _ timed.group_records)
        (same_rows timed.group_records))) first in
        let third : list_any p (fact_keys written) ≡ false =
        table_none SourceRecords one rows second
        (members_none r.members (drop_where (is_at_group i g) s.source_records) members
        (none_after (keys_in s.source_records) (keys_in (drop_where (is_at_group i g) s.source_records))
        (rows_without (is_at_group i g) s.source_records p) (no_source_record s none.facts))) in
        record {
          facts = fewer_none written (with_repeats_of_rows written i g) (repeats_fewer written) third;
          under = members_under r.members (drop_where (is_at_group i g) s.source_records)
              (each_filter IsUnder (λ e. not (is_at_group i g e.0)) s.source_records none.under);
        }

    -- ---- what is asked

    group_none : (s : State) → NonePasses s → NonePasses (query_group s i g).0
    unfolding query_group lower_group
    group_none s none =
        let lower : State = lower_group s i g (query_end s i) in
        let facts : list_any p (fact_keys lower) ≡ false =
        fewer_none s lower (lower_group_fewer i s g (query_end s i)) none.facts in
        record {
          facts = table_none GroupRepeats lower _ facts
              (put_none (star_key i g) _ s.group_repeats star (no_group_repeat s none.facts));
          under = none.under;
        }

    -- a source whose timer runs has a record, which doesn't pass
    running_none : (s : State) → NonePasses s → (end src : ℕ) → exceeds end (source_end s i g src) ≡ true
        → passes_at src ≡ false
    unfolding keys_in
    running_none s none end src runs = go (row_at s.source_records (source_key i g src)) refl runs
      where
        go : (o : Option SourceRecordRow) → row_at s.source_records (source_key i g src) ≡ o
            → exceeds end (option_and_then (λ (r : SourceRecordRow). r.end) o) ≡ true → passes_at src ≡ false
        go None is e = cc
        go (Some r) is e = by (passes_at src) refl
          where
            by : (b : Bool) → passes_at src ≡ b → passes_at src ≡ false
            by true hit =
                let found : list_any (λ (x : Key × SourceRecordRow). p x.0) s.source_records ≡ true =
                row_is_there (λ (x : Key × SourceRecordRow). p x.0) (source_key i g src) s.source_records r hit is in
                let no : false ≡ true =
                sym (sym (any_of_map p (λ (x : Key × SourceRecordRow). x.0) s.source_records)
                ∙ no_source_record s none.facts) ∙ found in cc
            by false hit = hit

    sendings_none : (s : State) → NonePasses s → (count : SendingRow) (sources : List ℕ) (t : Table SendingRow)
        → AllByRecursion (λ src. passes_at src ≡ false) sources → list_any p (keys_in t) ≡ false
        → list_any p (keys_in (fold (λ u src. put u (source_key i g src) count) t sources)) ≡ false
    sendings_none s none count [] t away first = first
    sendings_none s none count (src ∷ sources) t away first =
        sendings_none s none count sources (put t (source_key i g src) count) away.1
        (put_none (source_key i g src) count t away.0 first)

    less_passes : (t : Table SendingRow) → Passes p (keys_in t) (keys_in (filter_map (one_sent i g) t))
    unfolding keys_in
    less_passes t e =
        any_of_map p (λ (x : Key × SendingRow). x.0) t
        ∙ any_more (λ (x : Key × SendingRow). option_map_or (λ (y : Key × SendingRow). p y.0) (one_sent i g x) false)
        (λ (x : Key × SendingRow). p x.0) (λ x. own (not (is_sending i g x)) (nat_lt 1 (x.1).left) x) t
        (sym (any_of_filter_map (λ (y : Key × SendingRow). p y.0) (one_sent i g) t)
        ∙ (sym (any_of_map p (λ (x : Key × SendingRow). x.0) (filter_map (one_sent i g) t)) ∙ e))
      where
        own : (b c : Bool) (x : Key × SendingRow)
            → option_map_or (λ (y : Key × SendingRow). p y.0)
            (cond b (Some x) (cond c (Some (x.0, record { left = (x.1).left - 1 })) None)) false ≡ true
            → p x.0 ≡ true
        own true c x e = e
        own false true x e = e
        own false false x e = cc

    send_none : (s : State) → NonePasses s → NonePasses (send_sources s i g).0
    unfolding send_sources sources_sent set_row drop_at
    send_none s none =
        let left : Table SendingRow = filter_map (one_sent i g) s.sendings in
        let sent : State = record s { sendings = left } in
        let first : list_any p (fact_keys sent) ≡ false =
        table_none Sendings s left none.facts
        (none_after (keys_in s.sendings) (keys_in left) (less_passes s.sendings) (no_sending s none.facts)) in
        record {
          facts = table_none SourceRepeats sent _ first (set (next_sending sent i g));
          under = none.under;
        }
      where
        set : (o : Option SourceRepeatRow)
            → list_any p (keys_in (set_row s.source_repeats (star_key i g) o)) ≡ false
        set None =
            none_after (keys_in s.source_repeats) (keys_in (drop_at s.source_repeats (star_key i g)))
            (row_without (star_key i g) s.source_repeats p) (no_source_repeat s none.facts)
        set (Some row) = put_none (star_key i g) row s.source_repeats star (no_source_repeat s none.facts)

    sources_none : (s : State) (asked : List ℕ) → NonePasses s → NonePasses (query_sources s i g asked).0
    unfolding query_sources lower_sources
    sources_none s asked none = go (is_empty_list sources)
      where
        sources : List ℕ
        sources = filter (λ src. exceeds (query_end s i) (source_end s i g src)) asked

        counted : Table SendingRow
        counted = fold (λ t src. put t (source_key i g src) (record { left = robustness s i })) s.sendings sources

        lower : State
        lower = record (lower_sources s i g sources (query_end s i)) { sendings = counted }

        away : AllByRecursion (λ src. passes_at src ≡ false) sources
        away =
            each_more (λ src. exceeds (query_end s i) (source_end s i g src) ≡ true) _
            (λ src runs. running_none s none (query_end s i) src runs) sources
            (each_passes (λ src. exceeds (query_end s i) (source_end s i g src)) asked)

        lowered_none : NonePasses lower
        lowered_none = record {
          facts = table_none Sendings (lower_sources s i g sources (query_end s i)) counted
              (fewer_none s (lower_sources s i g sources (query_end s i))
              (lower_sources_fewer i s g sources (query_end s i)) none.facts)
              (sendings_none s none _ sources s.sendings away (no_sending s none.facts));
          under =
              each_map IsUnder IsUnder _ (λ e is. kept (is_at_group i g e.0 && is_among (source_in e.0) sources) e is)
              s.source_records none.under;
        }
          where
            kept : (b : Bool) (e : Key × SourceRecordRow) → IsUnder e
                → IsUnder (if b then (e.0, record { end = lowered (query_end s i) (e.1).end }) else e)
            kept true e is = is
            kept false e is = is

        go : (b : Bool) → (let after : State × List Message =
            elim b [ true ↦ (s, []) | false ↦ send_sources lower i g ] in NonePasses after.0)
        go true = none
        go false = send_none lower lowered_none

    asked_none : (s : State) (a : Asked) → NonePasses s → NonePasses (query_asked i g s a).0
    unfolding query_asked
    asked_none s AskGroup none = group_none s none
    asked_none s (AskSources sources) none = sources_none s sources none

  -- a record of a group whose keys don't pass
  record_seen_none : (i : ℕ) (s : State) (r : Record) → p (star_key i r.group) ≡ false
      → list_any (λ n. p (source_key i r.group n)) r.sources ≡ false → NonePasses s → NonePasses (record_seen i s r).0
  unfolding record_seen
  record_seen_none i s r star sources none =
      let full : ℕ = s.present + group_membership_interval s i in
      let known : GroupRecord = record_of s i r.group in
      let applied : GroupRecord × List Asked = apply_record full known r.type r.sources in
      let written : State = with_record s i r.group applied.0 in
      let after : NonePasses written =
      record_none i r.group star s applied.0 none
      (applied_none i r.group star full known.timer known.members r.type r.sources (no_member i r.group star s none) sources) in
      go written applied.1 after (is_querier s i)
    where
      go : (t : State) (asked : List Asked) → NonePasses t → (b : Bool)
          → (let seen : State × List Message =
          cond b (each_in_turn (query_asked i r.group) t asked) (t, []) in NonePasses seen.0)
      go t asked kept true =
          kept_in_turn (query_asked i r.group) NonePasses (λ u a k. asked_none i r.group star u a k) asked t kept
      go t asked kept false = kept

  report_none : (i : ℕ) (rs : List Record) (s : State) → ((g : ℕ) → p (star_key i g) ≡ false)
      → list_any p (flat_map (λ (r : Record). map (source_key i r.group) r.sources) rs) ≡ false → NonePasses s
      → NonePasses (each_in_turn (record_seen i) s rs).0
  unfolding each_in_turn
  report_none i [] s stars away none = none
  report_none i (r ∷ rs) s stars away none =
      let later : List Key = flat_map (λ (x : Record). map (source_key i x.group) x.sources) rs in
      report_none i rs (record_seen i s r).0 stars (in_right (map (source_key i r.group) r.sources) later away)
      (record_seen_none i s r (stars r.group)
      (sym (any_of_map p (source_key i r.group) r.sources) ∙ in_left (map (source_key i r.group) r.sources) later away)
      none)

pub star_names_none : (g src i h : ℕ) → names_source g src (star_key i h) ≡ false
unfolding names_source
star_names_none g src i h = go (h == g)
  where
    go : (b : Bool) → (b && false && (0 == src)) ≡ false
    go true = refl
    go false = refl

-- a source that has a fact after a report had one, or the report names it
pub report_names_facts : (s : State) (i : ℕ) (records : List Record)
    → AllByRecursion (λ (e : Key × SourceRecordRow). is_under_source e ≡ true) s.source_records → (g src : ℕ)
    → list_any (names_source g src) (fact_keys (report_seen s i records).0) ≡ true
    → (list_any (names_source g src) (fact_keys s)
    || list_any (names_source g src) (reported_groups i records ++ reported_sources i records)) ≡ true
unfolding report_seen reported_sources
report_names_facts s i records under g src there =
    go (list_any p (fact_keys s)) (list_any p (reported_groups i records ++ reported_sources i records)) refl refl
  where
    p : Key → Bool
    p = names_source g src

    go : (b c : Bool) → list_any p (fact_keys s) ≡ b
        → list_any p (reported_groups i records ++ reported_sources i records) ≡ c → (b || c) ≡ true
    go true c none away = refl
    go false true none away = refl
    go false false none away =
        let after : NonePasses p (report_seen s i records).0 =
        report_none p i (filter (λ r. not (is_skipped r)) records) s (star_names_none g src i)
        (in_right p (reported_groups i records) (reported_sources i records) away)
        (record { facts = none; under = under }) in
        let no : false ≡ true = sym after.facts ∙ there in cc
