-- Which facts a change leaves. Of each test of keys: where a fact passes after the change, one passed before it.
use Rattle.std.{proofs.{Common.{◌≡◌, ℕ, Bool, true, false, cond, List, [], ◌∷◌, ◌&&◌, ◌++◌, filter, fold, not, Option, Some, None, eqb-true, refl, ap, subst, sym, ◌∙◌, arith, rules}, lemmas.{Bool.{or_left, or_right}, List.Folds.list_any-append}}, specs.{Cmp.{first_so, second_so}, List.{filter_map, list_all, list_any}, Option.option_map_or}}
use Rattle.pim_types.{specs.{declared.{fact.{AssertRow.AssertRow, DownstreamRow.DownstreamRow, GroupRecordRow.GroupRecordRow, GroupRepeatRow.GroupRepeatRow, Key.Key, RegisterState.RegisterState, SendingRow.SendingRow, SourceRecordRow.SourceRecordRow, SourceRepeatRow.SourceRepeatRow}, timer.TimerKind.TimerKind}, Keys.{group_in, iface_in, is_on, same_key, source_in, source_key, star_key}}}
use Rattle.pim_model.{specs.{Asserts.{assert_due, assert_forgotten, wins_again}, Downstream.{downstream_expired, prune_pending_due}, Firing.{fire_row, fired, keepalive_due}, Hellos.{hello_due, neighbour_due}, Messages.Message, Querier.{general_query_due, group_record_due, group_repeat_due, one_sent, other_querier_gone, querying_on, source_record_due, source_repeat_due, sources_sent}, Records.{GroupRecord, Member, group_expired, is_at_group, is_no_record, members_of, put_member, record_of, source_expired, with_members, with_repeats_of_rows}, Registers.register_due, State.State, Step.iface_down, Tables.{Table, change_row, changed_entry, drop_at, drop_where, has_row, keys_in, row_at}, Upstream.{fact_keys, join_timer_due, override_timer_due}}}
use Rattle.law_settled.{proofs.{Parts.{Asserts, Downstreams, GroupRecords, GroupRepeats, Interfaces, JoinTimers, Neighbours, OverrideTimers, Part, Queriers, Registers, Row, Sendings, SourceRecords, SourceRepeats, Sources, rows, with_rows}, ListLaws.{any_more, any_of_filter, either}, RecordsKept.{any_of_members, equal_forms}, TableLaws.{any_in_filter, any_of_filter_map, any_of_map}}, specs.Laws.is_under_source}

-- where a key passes in the second list, one does in the first
abbrev pub Passes : (Key → Bool) → List Key → List Key → Type 0
Passes p before after = list_any p after ≡ true → list_any p before ≡ true

-- no test of keys passes a fact that none passed before
pub record IsFewer (s t : State) : Type 0 where
  pub passed : (p : Key → Bool) → Passes p (fact_keys s) (fact_keys t)

pub no_other : (s t : State) → fact_keys t ≡ fact_keys s → IsFewer s t
no_other s t same = record { passed = λ p e. sym (ap (λ (ks : List Key). list_any p ks) same) ∙ e }

pub fewer_both : (s t u : State) → IsFewer s t → IsFewer t u → IsFewer s u
fewer_both s t u first second = record { passed = λ p e. first.passed p (second.passed p e) }

pub fewer_so : (b : Bool) (s t u : State) → IsFewer s t → IsFewer s u → IsFewer s (cond b t u)
fewer_so b s t u p q = grind arith

-- ---- tables

-- the keys of a table that become fewer
abbrev pub KeysFewer : {R : Type 0} → Table R → Table R → Type 0
KeysFewer t u = (p : Key → Bool) → Passes p (keys_in t) (keys_in u)

module _ {R : Type 0} where
  pub same_rows : (t : Table R) → KeysFewer t t
  same_rows t p e = e

  pub rows_so : (b : Bool) (t u v : Table R) → KeysFewer t u → KeysFewer t v → KeysFewer t (cond b u v)
  rows_so b t u v f g = grind arith

  pub rows_left : (test : Key × R → Bool) (t : Table R) → KeysFewer t (filter test t)
  unfolding keys_in
  rows_left test t p e = grind (arith, any_of_map, any_of_filter)

  pub rows_without : (test : Key → Bool) (t : Table R) → KeysFewer t (drop_where test t)
  unfolding drop_where
  rows_without test t = rows_left (λ x. not (test x.0)) t

  pub row_without : (k : Key) (t : Table R) → KeysFewer t (drop_at t k)
  unfolding drop_at
  row_without k t = rows_without (same_key k) t

  module _ (change : Key × R → Option (Key × R)) (p : Key → Bool)
      (own : (x : Key × R) → option_map_or (λ (y : Key × R). p y.0) (change x) false ≡ true → p x.0 ≡ true) where
    rows_changed : (t : Table R) → Passes p (keys_in t) (keys_in (filter_map change t))
    unfolding keys_in
    rows_changed t e = grind (arith, any_of_map, any_more, any_of_filter_map)

  pub row_changed : (change : R → Option R) (k : Key) (t : Table R) → KeysFewer t (change_row change k t)
  unfolding change_row changed_entry
  row_changed change k t p = grind (arith, rows_changed)

module _ (p : Key → Bool) where
  pub both_fewer : (xs ys us vs : List Key) → Passes p xs ys → Passes p us vs → Passes p (xs ++ us) (ys ++ vs)
  both_fewer xs ys us vs first second e = grind (arith, list_any-append, either, or_left, or_right)

-- no table of a state has other keys
pub of_tables : (s t : State) → ((part : Part) → KeysFewer (rows part s) (rows part t)) → IsFewer s t
unfolding fact_keys
of_tables s t less = record {
  passed = λ p.
      both_fewer p _ _ _ _ (both_fewer p _ _ _ _ (both_fewer p _ _ _ _ (both_fewer p _ _ _ _ (both_fewer p _ _ _ _
      (both_fewer p _ _ _ _ (both_fewer p _ _ _ _ (both_fewer p _ _ _ _ (both_fewer p _ _ _ _ (both_fewer p _ _ _ _
      (less GroupRecords p) (less SourceRecords p)) (less GroupRepeats p)) (less SourceRepeats p))
      (less Sendings p)) (less Downstreams p)) (less Asserts p)) (less JoinTimers p)) (less OverrideTimers p))
      (less Sources p)) (less Registers p);
}

one_less : (part : Part) (s : State) (t : Table (Row part)) → KeysFewer (rows part s) t → (q : Part)
    → KeysFewer (rows q s) (rows q (with_rows part s t))
one_less Interfaces s t f Interfaces = f
one_less Neighbours s t f Neighbours = f
one_less Queriers s t f Queriers = f
one_less GroupRecords s t f GroupRecords = f
one_less SourceRecords s t f SourceRecords = f
one_less GroupRepeats s t f GroupRepeats = f
one_less SourceRepeats s t f SourceRepeats = f
one_less Sendings s t f Sendings = f
one_less Downstreams s t f Downstreams = f
one_less Asserts s t f Asserts = f
one_less JoinTimers s t f JoinTimers = f
one_less OverrideTimers s t f OverrideTimers = f
one_less Sources s t f Sources = f
one_less Registers s t f Registers = f
one_less part s t f q = same_rows (rows q s)

-- one table has no other keys, and the others are as they were
pub table_fewer : (part : Part) (s : State) (t : Table (Row part)) → KeysFewer (rows part s) t
    → IsFewer s (with_rows part s t)
table_fewer part s t f = of_tables s (with_rows part s t) (one_less part s t f)

-- ---- the members of a record

module _ (s : State) (i g : ℕ) where
  repeats_fewer : IsFewer s (with_repeats_of_rows s i g)
  unfolding with_repeats_of_rows
  repeats_fewer =
      let there : Bool = has_row s.group_records (star_key i g) in
      let sendings : Table SendingRow =
      drop_where (λ k. is_at_group i g k && not (has_row s.source_records k)) s.sendings in
      let sends : Bool = list_any (λ (e : Key × SendingRow). is_at_group i g e.0) sendings in
      let groups : Table GroupRepeatRow = cond there s.group_repeats (drop_at s.group_repeats (star_key i g)) in
      let sources : Table SourceRepeatRow = cond sends s.source_repeats (drop_at s.source_repeats (star_key i g)) in
      let one : State = record s { group_repeats = groups } in
      let two : State = record one { source_repeats = sources } in
      fewer_both s one (with_repeats_of_rows s i g)
      (table_fewer GroupRepeats s groups
      (rows_so there s.group_repeats s.group_repeats _ (same_rows s.group_repeats) (row_without _ s.group_repeats)))
      (fewer_both one two (with_repeats_of_rows s i g)
      (table_fewer SourceRepeats one sources
      (rows_so sends s.source_repeats s.source_repeats _ (same_rows s.source_repeats)
      (row_without _ s.source_repeats)))
      (table_fewer Sendings two sendings
      (rows_without (λ k. is_at_group i g k && not (has_row s.source_records k)) s.sendings)))

module _ (s : State) (i g : ℕ) (r : GroupRecord)
    (more : (p : Key → Bool) → list_any (λ (m : Member). p (source_key i g m.0)) r.members ≡ true
    → list_any p (keys_in s.source_records) ≡ true) where
  members_put : KeysFewer s.source_records
      (fold (put_member i g) (drop_where (is_at_group i g) s.source_records) r.members)
  unfolding keys_in
  members_put p e =
      either (list_any (λ (m : Member). p (source_key i g m.0)) r.members)
      (list_any (λ (x : Key × SourceRecordRow). p x.0) (drop_where (is_at_group i g) s.source_records)) (more p)
      (λ f. rows_without (is_at_group i g) s.source_records p
      (any_of_map p (λ (x : Key × SourceRecordRow). x.0) (drop_where (is_at_group i g) s.source_records) ∙ f))
      (any_of_members (λ (x : Key × SourceRecordRow). p x.0) i g r.members
      (drop_where (is_at_group i g) s.source_records)
      (sym (any_of_map p (λ (x : Key × SourceRecordRow). x.0)
      (fold (put_member i g) (drop_where (is_at_group i g) s.source_records) r.members)) ∙ e))

  members_fewer : IsFewer s (with_members s i g r)
  unfolding with_members
  members_fewer =
      let groups : Table GroupRecordRow =
      cond (is_no_record r) (drop_at s.group_records (star_key i g)) s.group_records in
      let one : State = record s { group_records = groups } in
      let written : State = record one {
        source_records = fold (put_member i g) (drop_where (is_at_group i g) s.source_records) r.members;
      } in
      fewer_both s one (with_repeats_of_rows written i g)
      (table_fewer GroupRecords s groups
      (rows_so (is_no_record r) s.group_records _ s.group_records (row_without _ s.group_records)
      (same_rows s.group_records)))
      (fewer_both one written (with_repeats_of_rows written i g)
      (table_fewer SourceRecords one _ members_put)
      (repeats_fewer written i g))

-- a member stands for a row of its group
module _ (i g : ℕ) (p : Key → Bool) where
  member_there : (t : Table SourceRecordRow) → list_all is_under_source t ≡ true
      → list_any (λ (e : Key × SourceRecordRow). is_at_group i g e.0 && p (source_key i g (source_in e.0))) t ≡ true
      → list_any (λ (e : Key × SourceRecordRow). p e.0) t ≡ true
  member_there [] under e = e
  member_there (x ∷ t) under e =
      let first : Bool = is_at_group i g x.0 in
      let its : Bool = p (source_key i g (source_in x.0)) in
      let later : Bool = list_any (λ (e : Key × SourceRecordRow). p e.0) t in
      either (first && its)
      (list_any (λ (e : Key × SourceRecordRow). is_at_group i g e.0 && p (source_key i g (source_in e.0))) t)
      (λ f. or_left (p x.0) later (subst (λ (k : Key). p k ≡ true)
      (equal_forms i g x (first_so first its f)
      (first_so (is_under_source x) (list_all is_under_source t) under)) (second_so first its f)))
      (λ f. or_right (p x.0) later
      (member_there t (second_so (is_under_source x) (list_all is_under_source t) under) f))
      e

module _ (s : State) (under : list_all is_under_source s.source_records ≡ true) (i g : ℕ) where
  members_there : (p : Key → Bool) → list_any (λ (m : Member). p (source_key i g m.0)) (record_of s i g).members ≡ true
      → list_any p (keys_in s.source_records) ≡ true
  unfolding record_of members_of keys_in
  members_there p e =
      any_of_map p (λ (x : Key × SourceRecordRow). x.0) s.source_records
      ∙ member_there i g p s.source_records under
      (sym (any_in_filter (λ (x : Key × SourceRecordRow). is_at_group i g x.0)
      (λ (x : Key × SourceRecordRow). p (source_key i g (source_in x.0))) s.source_records)
      ∙ (sym (any_of_map (λ (m : Member). p (source_key i g m.0))
      (λ (x : Key × SourceRecordRow). let m : Member = (source_in x.0, (x.1).end) in m)
      (filter (λ (x : Key × SourceRecordRow). is_at_group i g x.0) s.source_records)) ∙ e))

  group_end_fewer : IsFewer s (group_record_due s i g)
  unfolding group_record_due group_expired
  group_end_fewer =
      let ended : GroupRecordRow → Option GroupRecordRow = λ old. Some (record { end = None }) in
      let timed : State = record s { group_records = change_row ended (star_key i g) s.group_records } in
      fewer_both s timed (group_record_due s i g)
      (table_fewer GroupRecords s _ (row_changed ended (star_key i g) s.group_records))
      (members_fewer timed i g (group_expired s.present (record_of s i g))
      (λ p e. members_there p (any_of_filter _ (λ (m : Member). p (source_key i g m.0)) (record_of s i g).members e)))

  source_end_fewer : (src : ℕ) → IsFewer s (source_record_due s i g src)
  unfolding source_record_due source_expired
  source_end_fewer src = grind (arith, eqb-true, members_fewer, members_there, any_more, any_of_map, any_of_filter)

-- ---- the ends of timers

module _ (s : State) (k : Key) where
  downstream_fewer : (b : Bool) (change : DownstreamRow → Option DownstreamRow) (first second : List Message)
      → IsFewer s (cond b
      (let c : State × List Message = (record s { downstream = change_row change k s.downstream }, first) in c)
      (record s { downstream = drop_at s.downstream k }, second)).0
  downstream_fewer true change first second =
      table_fewer Downstreams s _ (row_changed change k s.downstream)
  downstream_fewer false change first second =
      table_fewer Downstreams s _ (row_without k s.downstream)

  asserts_fewer : (b : Bool) (r : AssertRow)
      → IsFewer s (cond b (wins_again s k r) (let c : State × List Message = (assert_forgotten s k, []) in c)).0
  unfolding wins_again assert_forgotten
  asserts_fewer true r = table_fewer Asserts s _ (row_changed _ k s.asserts)
  asserts_fewer false r = table_fewer Asserts s _ (row_without k s.asserts)

  registers_fewer : (state : RegisterState) → IsFewer s (register_due s k state).0
  unfolding register_due
  registers_fewer (RegisterState.Prune end) =
      table_fewer Registers s _ (row_changed _ k s.registers)
  registers_fewer RegisterState.Join =
      table_fewer Registers s _ (row_changed _ k s.registers)
  registers_fewer (RegisterState.JoinPending end) =
      table_fewer Registers s _ (row_changed _ k s.registers)

  row_fires : {R : Type 0} (fire : R → State × List Message) → ((r : R) → IsFewer s (fire r).0) → (o : Option R)
      → IsFewer s (option_map_or fire o (s, [])).0
  row_fires fire fewer o = grind (arith, no_other)

  sendings_fewer : (i g : ℕ) → KeysFewer s.sendings (filter_map (one_sent i g) s.sendings)
  sendings_fewer i g p = grind (arith, rows_changed)

-- after the expiry of a timer no key passes a test that none passed before
pub ended_fewer : (s : State) → list_all is_under_source s.source_records ≡ true → (kind : TimerKind) (k : Key)
    → IsFewer s (fired s kind k).0
unfolding fact_keys fired fire_row prune_pending_due downstream_expired assert_due keepalive_due override_timer_due
    join_timer_due other_querier_gone querying_on group_repeat_due source_repeat_due sources_sent general_query_due
    hello_due neighbour_due
ended_fewer s under TimerKind.Neighbour k = no_other s _ refl
ended_fewer s under TimerKind.PrunePending k = search (rules, row_fires, downstream_fewer)
ended_fewer s under TimerKind.DownstreamExpiry k =
    table_fewer Downstreams s _ (row_without k s.downstream)
ended_fewer s under TimerKind.GroupRecord k = group_end_fewer s under (iface_in k) (group_in k)
ended_fewer s under TimerKind.SourceRecord k = source_end_fewer s under (iface_in k) (group_in k) (source_in k)
ended_fewer s under TimerKind.Assert k = search (rules, row_fires, asserts_fewer)
ended_fewer s under TimerKind.Keepalive k =
    row_fires s k _ (λ r. table_fewer Sources s _ (row_changed _ k s.sources))
    (row_at s.sources k)
ended_fewer s under TimerKind.Register k = search (rules, row_fires, registers_fewer)
ended_fewer s under TimerKind.Override k =
    table_fewer OverrideTimers s _ (row_without k s.override_timers)
ended_fewer s under TimerKind.Join k =
    table_fewer JoinTimers s _ (row_changed _ k s.join_timers)
ended_fewer s under TimerKind.OtherQuerier k = no_other s _ refl
ended_fewer s under TimerKind.GroupRepeat k =
    row_fires s k _ (λ r. table_fewer GroupRepeats s _ (row_changed _ _ s.group_repeats))
    (row_at s.group_repeats k)
ended_fewer s under TimerKind.SourceRepeat k =
    let sent : State = record s { sendings = filter_map (one_sent (iface_in k) (group_in k)) s.sendings } in
    fewer_both s sent _ (table_fewer Sendings s _ (sendings_fewer s k (iface_in k) (group_in k)))
    (table_fewer SourceRepeats sent _ (row_changed _ _ s.source_repeats))
ended_fewer s under TimerKind.GeneralQuery k = grind (arith, row_fires, no_other)
ended_fewer s under TimerKind.Hello k = grind (arith, row_fires, no_other)

-- ---- an interface that goes down

down_less : (s : State) (i : ℕ) (q : Part) → KeysFewer (rows q s) (rows q (iface_down s i))
unfolding iface_down
down_less s i Interfaces = rows_without (is_on i) s.interfaces
down_less s i Neighbours = rows_without (is_on i) s.neighbours
down_less s i Queriers = rows_without (is_on i) s.queriers
down_less s i GroupRecords = rows_without (is_on i) s.group_records
down_less s i SourceRecords = rows_without (is_on i) s.source_records
down_less s i GroupRepeats = rows_without (is_on i) s.group_repeats
down_less s i SourceRepeats = rows_without (is_on i) s.source_repeats
down_less s i Sendings = rows_without (is_on i) s.sendings
down_less s i Downstreams = rows_without (is_on i) s.downstream
down_less s i Asserts = rows_without (is_on i) s.asserts
down_less s i JoinTimers = same_rows s.join_timers
down_less s i OverrideTimers = same_rows s.override_timers
down_less s i Sources = same_rows s.sources
down_less s i Registers = same_rows s.registers

pub down_fewer : (s : State) (i : ℕ) → IsFewer s (iface_down s i)
down_fewer s i = of_tables s (iface_down s i) (down_less s i)
