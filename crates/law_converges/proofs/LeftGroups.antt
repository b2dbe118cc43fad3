-- A group timer ends no later, unless a report names the group.
use Rattle.std.{proofs.{Common.{◌≡◌, ◌∙◌, ℕ, ◌+◌, ◌≤◌, ◌<◌, ◌&&◌, ◌||◌, ◌==◌, min, nat_le, nat_lt, not, Bool, true, false, is_some, List, [], ◌∷◌, filter, Option, Some, None, Ok, refl, sym, ap, subst, arith, eq-eqb}, lemmas.Bool.{both_ways, Decides.nat_tests}}, specs.{Cmp.Derive.both_true, List.{AllByRecursion, list_all, list_any}, Option.option_map_or, Prelude.{if◌then◌else◌, option_and_then}}}
use Rattle.pim_types.{specs.{Keys.{group_in, iface_in, is_on, same_key, star_key}, declared.{event.Event.Event, fact.{GroupRecordRow.GroupRecordRow, Key.Key, RegisterRow.RegisterRow}, timer.TimerKind.TimerKind}}, proofs.Keys.{equal_keys, same_key_same}}
use Rattle.pim_wire.{specs.Values.{Encapsulated, Null}}
use Rattle.igmp_wire.{specs.{Codes.code_value, Values.{Query as QueryValue, Record}}}
use Rattle.pim_model.{specs.{declared.accepted.Accepted.Accepted, Asserts.{assert_due, assert_received, data_seen, wins}, Cause.{done_as, if_done}, Downstream.{downstream_expired, keys_taken, prune_pending_due, to_me}, Firing.{fire_row, fired, keepalive_due, settled}, Forwarding.{forwarded, list_chosen, register_at_rp, register_received, stray, watched}, Hellos.{hello_due, hello_received, neighbour_due}, Judging.{Judged, judged}, Messages.Message, Querier.{each_in_turn, general_query_due, group_end, group_membership_interval, group_record_due, group_repeat_due, is_lower_querier, is_querier, is_skipped, lower_group, lower_queried, lower_sources, lowered, other_querier_gone, querier_elected, querier_up, query_asked, query_end, query_group, query_seen, query_sources, querying, querying_on, record_seen, report_seen, source_record_due, source_repeat_due, sources_sent}, Receivers.{is_exclude, is_exclude_among, local_receiver_star}, Records.{AskGroup, AskSources, Asked, GroupRecord, apply_record, is_no_record, record_of, with_members, with_record, with_repeats_of_rows}, Registers.{register_due, register_stop_seen, with_keepalive}, Seen.seen, State.State, Step.{advanced, change, concluded, done, iface_down, iface_up, ran, rps_replaced, state_after, step, taken, taken_unless_full}, Tables.{Table, change_row, changed_entry, drop_at, drop_where, has_row, is_empty_list, put, row_at}, Upstream.{join_timer_due, override_timer_due}}}
use Rattle.law_settled.{specs.Ready.IsSettled, proofs.{FineStates.Runs, ListLaws.{all_of_filter, by_cond, each_filter, each_filter_map, each_map, each_of_list, list_of_each}, Parts.{end_of, is_sound, part_of}, RowLaws.{each_put, has_row_any}, ShownEnds.{rows_run, shown_is_later}, Steps.step_is_settled, TableLaws.row_of_each, TurnLaws.kept_in_turn, UnchangedLaws.{full_or_taken, taken_done}}}
use Rattle.law_streams.{specs.Copies.happens, proofs.{EndSoon.no_later, Lasts.only_row, LiesUnder.row_fires, Same.{Rows, assert_due_same, assert_same, here_same, hello_same, joined_same, register_due_same, register_stop_same, seen_same, settled_same, spt_same}, Walks.time_walks}}
use Rattle.law_hosts.{proofs.Timers.asked_groups}
use Rattle.law_converges.{specs.LeftGroups.{AreSilent, LeftGroupEnds, ends_within, names_group}}

no_row_there : (t : Table GroupRecordRow) (k : Key) → row_at t k ≡ None → has_row t k ≡ false
unfolding has_row
no_row_there t k none = ap is_some none

module _ (i g bound : ℕ) where
  abbrev here : ℕ → ℕ → Bool
  here j h = (j == i) && (h == g)

  -- the row is of another group, or ends within the bound
  abbrev ok : Key × GroupRecordRow → Bool
  ok e = not (same_key (star_key i g) e.0) || ends_within bound (e.1).end

  abbrev All : State → Type 0
  All s = list_all ok s.group_records ≡ true

  by_rows : (s t : State) → t.group_records ≡ s.group_records → All s → All t
  by_rows s t same f = ap (list_all ok) same ∙ f

  of_rows : (s t : State) → (let x : Rows = record { downstream = t.downstream; groups = t.group_records; sources = t.source_records } in x)
      ≡ (let x : Rows = record { downstream = s.downstream; groups = s.group_records; sources = s.source_records } in x) → All s → All t
  of_rows s t e f = by_rows s t (ap (λ (x : Rows). x.groups) e) f

  another : (j h : ℕ) → here j h ≡ false → same_key (star_key i g) (star_key j h) ≡ false
  another j h off = go (same_key (star_key i g) (star_key j h)) refl
    where
      go : (b : Bool) → same_key (star_key i g) (star_key j h) ≡ b → b ≡ false
      go false e = refl
      go true e =
          let same : star_key i g ≡ star_key j h = equal_keys (star_key i g) (star_key j h) e in
          absurd (both_ways (here j h) off
          (both_true (eq-eqb j i (sym (ap iface_in same))) (eq-eqb h g (sym (ap group_in same)))))

  -- ---- a record that is written

  members_all : (s : State) (j h : ℕ) (r : GroupRecord) → All s → All (with_members s j h r)
  unfolding with_members with_repeats_of_rows drop_at drop_where
  members_all s j h r f =
      by_cond (λ (t : Table GroupRecordRow). list_all ok t ≡ true) (is_no_record r) _ _
      (all_of_filter (λ (e : Key × GroupRecordRow). not (same_key (star_key j h) e.0)) ok s.group_records f) f

  new_ok : (j h : ℕ) → here j h ≡ false → (row : GroupRecordRow) → ok (star_key j h, row) ≡ true
  new_ok j h off row = rw (another j h off) refl

  record_all : (s : State) (j h : ℕ) (r : GroupRecord) → here j h ≡ false → All s → All (with_record s j h r)
  unfolding with_record
  record_all s j h r off f =
      members_all (record s { group_records = put s.group_records (star_key j h) (record { end = r.timer }) }) j h r
      (list_of_each ok _ (each_put (star_key j h) (record { end = r.timer }) (λ (e : Key × GroupRecordRow). ok e ≡ true)
      (new_ok j h off (record { end = r.timer })) s.group_records (each_of_list ok s.group_records f)))

  -- ---- timers that are lowered

  lower_end : (q : ℕ) (o : Option ℕ) → ends_within bound o ≡ true → ends_within bound (lowered q o) ≡ true
  lower_end q None f = refl
  lower_end q (Some e) f = least e q f
    where
      least : (a b : ℕ) → nat_le a bound ≡ true → nat_le (min a b) bound ≡ true
      least a b h = grind (arith, nat_tests, h)

  or_kept : (a b c : Bool) → (b ≡ true → c ≡ true) → (a || b) ≡ true → (a || c) ≡ true
  or_kept true b c f e = refl
  or_kept false b c f e = f e

  entry_ok : (k : Key) (q : ℕ) (e : Key × GroupRecordRow) → ok e ≡ true
      → ok (if same_key k e.0 then (e.0, record { end = lowered q (e.1).end }) else e) ≡ true
  entry_ok k q e f =
      by_cond (λ (x : Key × GroupRecordRow). ok x ≡ true) (same_key k e.0) _ _
      (or_kept (not (same_key (star_key i g) e.0)) (ends_within bound (e.1).end) _ (lower_end q (e.1).end) f) f

  lower_all : (s : State) (j h q : ℕ) → All s → All (lower_group s j h q)
  unfolding lower_group
  lower_all s j h q f =
      list_of_each ok _ (each_map (λ (e : Key × GroupRecordRow). ok e ≡ true) (λ (e : Key × GroupRecordRow). ok e ≡ true)
      (λ (e : Key × GroupRecordRow). if same_key (star_key j h) e.0 then (e.0, record { end = lowered q (e.1).end }) else e)
      (entry_ok (star_key j h) q) s.group_records (each_of_list ok s.group_records f))

  asked_all : (s : State) (j h : ℕ) (a : Asked) → All s → All (query_asked j h s a).0
  unfolding query_asked query_group
  asked_all s j h AskGroup f = lower_all s j h _ f
  asked_all s j h (AskSources sources) f = by_rows s (query_sources s j h sources).0 (asked_groups i g j h s sources) f

  -- ---- a report

  seen_all : (j : ℕ) (s : State) (r : Record) → here j r.group ≡ false → All s → All (record_seen j s r).0
  unfolding record_seen
  seen_all j s r off f =
      let full : ℕ = s.present + group_membership_interval s j in
      let p : GroupRecord × List Asked = apply_record full (record_of s j r.group) r.type r.sources in
      let w : State = with_record s j r.group p.0 in
      let written : All w = record_all s j r.group p.0 off f in
      by_cond (λ (x : State × List Message). All x.0) (is_querier s j) (each_in_turn (query_asked j r.group) w p.1) (w, [])
      (kept_in_turn (query_asked j r.group) All (λ u a h. asked_all u j r.group a h) p.1 w written) written

  each_all : (j : ℕ) (rs : List Record) → AllByRecursion (λ (r : Record). here j r.group ≡ false) rs → (s : State) → All s
      → All (each_in_turn (record_seen j) s rs).0
  unfolding each_in_turn
  each_all j [] off s f = f
  each_all j (r ∷ rs) off s f = each_all j rs off.1 (record_seen j s r).0 (seen_all j s r off.0 f)

  each_apart : (j : ℕ) (rs : List Record) → ((j == i) && list_any (λ (r : Record). r.group == g) rs) ≡ false
      → AllByRecursion (λ (r : Record). here j r.group ≡ false) rs
  each_apart j [] off = tt
  each_apart j (r ∷ rs) off = (first (j == i) (r.group == g) _ off, each_apart j rs (later (j == i) (r.group == g) _ off))
    where
      first : (a b c : Bool) → (a && (b || c)) ≡ false → (a && b) ≡ false
      first a b c e = grind arith

      later : (a b c : Bool) → (a && (b || c)) ≡ false → (a && c) ≡ false
      later a b c e = grind arith

  report_all : (s : State) (j : ℕ) (rs : List Record) → ((j == i) && list_any (λ (r : Record). r.group == g) rs) ≡ false → All s
      → All (report_seen s j rs).0
  unfolding report_seen
  report_all s j rs off f =
      each_all j (filter (λ r. not (is_skipped r)) rs)
      (each_filter (λ (r : Record). here j r.group ≡ false) (λ r. not (is_skipped r)) rs (each_apart j rs off)) s f

  -- ---- each event's own change

  lowered_all : (s : State) (j : ℕ) (q : QueryValue) → All s → All (lower_queried s j q)
  unfolding lower_queried lower_sources
  lowered_all s j q f =
      let group : State = lower_group s j q.group (query_end s j) in
      let sources : State = lower_sources s j q.group q.sources (query_end s j) in
      by_cond All (q.suppress || (q.group == 0)) s (if is_empty_list q.sources then group else sources) f
      (by_cond All (is_empty_list q.sources) group sources (lower_all s j q.group (query_end s j) f) f)

  elected_groups : (s : State) (j qrv qqi : ℕ) → (querier_elected s j qrv qqi).group_records ≡ s.group_records
  unfolding querier_elected
  elected_groups s j qrv qqi = refl

  query_all : (s : State) (j from : ℕ) (q : QueryValue) → All s → All (query_seen s j from q)
  unfolding query_seen
  query_all s j from q f =
      let elected : State = querier_elected s j q.robustness (code_value q.interval_code) in
      lowered_all (if is_lower_querier s j from then elected else s) j q
      (by_cond (λ (x : State). All x) (is_lower_querier s j from) elected s
      (by_rows s elected (elected_groups s j q.robustness (code_value q.interval_code)) f) f)

  down_all : (s : State) (j : ℕ) → All s → All (iface_down s j)
  unfolding iface_down drop_where
  down_all s j f = all_of_filter (λ (e : Key × GroupRecordRow). not (is_on j e.0)) ok s.group_records f

  chosen_groups : (s : State) (h src iif : ℕ) → (list_chosen s h src iif).state.group_records ≡ s.group_records
  unfolding list_chosen stray watched with_keepalive data_seen wins
  chosen_groups s h src iif = grind arith

  same_groups : (s u : State) → (let x : Rows = record { downstream = u.downstream; groups = u.group_records; sources = u.source_records } in x)
      ≡ (let x : Rows = record { downstream = s.downstream; groups = s.group_records; sources = s.source_records } in x)
      → u.group_records ≡ s.group_records
  same_groups s u e = ap (λ (x : Rows). x.groups) e

  data_groups : (s : State) (h src iif : ℕ) → (forwarded s h src iif).state.group_records ≡ s.group_records
  unfolding forwarded
  data_groups s h src iif = grind (arith, chosen_groups, same_groups, spt_same, joined_same, here_same)

  register_groups : (s : State) (p : _) (h src : ℕ) (is_null : Bool) → (register_received s p h src is_null).state.group_records ≡ s.group_records
  unfolding register_received register_at_rp with_keepalive
  register_groups s p h src is_null = grind arith

  to_me_groups : (s : State) (j : ℕ) (m : _) → (to_me s j m).group_records ≡ s.group_records
  unfolding to_me keys_taken
  to_me_groups s j m = refl

  change_all : (s : State) (w : ℕ) (a : Accepted) → names_group i g (Some a) ≡ false → All s → All (change s w a).state
  unfolding change iface_up querier_up querying rps_replaced
  change_all s w (Accepted.Advance moment) off f = f
  change_all s w (Accepted.Up j) off f = f
  change_all s w (Accepted.Down j) off f = down_all s j.number f
  change_all s w (Accepted.Routes routes) off f = f
  change_all s w (Accepted.Rps ranges) off f = f
  change_all s w (Accepted.Hello j from h) off f = of_rows s (hello_received s j.number from.bits h w) (hello_same s j.number from.bits h w) f
  change_all s w (Accepted.JoinPruneToMe j m) off f = by_rows s (to_me s j.number m) (to_me_groups s j.number m) f
  change_all s w (Accepted.JoinPruneSeen j m) off f = of_rows s (seen s w j.number m) (seen_same s w j.number m) f
  change_all s w (Accepted.Assert j from a) off f = of_rows s (assert_received s j.number from.bits a).0 (assert_same s j.number from.bits a) f
  change_all s w (Accepted.Query j from q) off f = query_all s j.number from.bits q f
  change_all s w (Accepted.Report j records) off f = report_all s j.number records off f
  change_all s w (Accepted.Data j p) off f =
      by_rows s (forwarded s p.destination p.source j.number).state (data_groups s p.destination p.source j.number) f
  change_all s w (Accepted.Register p (Encapsulated inner)) off f =
      by_rows s (register_received s p inner.destination inner.source false).state (register_groups s p inner.destination inner.source false) f
  change_all s w (Accepted.Register p (Null source group)) off f =
      by_rows s (register_received s p group source true).state (register_groups s p group source true) f
  change_all s w (Accepted.RegisterStop from r) off f =
      of_rows s (register_stop_seen s w r.group.bits r.source.bits) (register_stop_same s w r.group.bits r.source.bits) f

  -- ---- a timer

  stopped_ok : (k : Key) (e y : Key × GroupRecordRow) → changed_entry (λ (old : GroupRecordRow). Some (record { end = None })) k e ≡ Some y
      → ok e ≡ true → ok y ≡ true
  unfolding changed_entry
  stopped_ok k e y is f = go (same_key k e.0) refl is
    where
      none_ok : (a : Bool) → (a || true) ≡ true
      none_ok a = grind arith

      go : (b : Bool) → same_key k e.0 ≡ b
          → (if b then Some (let p : Key × GroupRecordRow = (e.0, record { end = None }) in p) else Some e) ≡ Some y → ok y ≡ true
      go true at same =
          subst (λ (o : Option (Key × GroupRecordRow)). option_map_or ok o true ≡ true) same (none_ok (not (same_key (star_key i g) e.0)))
      go false at same = subst (λ (o : Option (Key × GroupRecordRow)). option_map_or ok o true ≡ true) same f

  group_due : (s : State) (j h : ℕ) → All s → All (group_record_due s j h)
  unfolding group_record_due change_row
  group_due s j h f =
      members_all _ j h _ (list_of_each ok _ (each_filter_map (λ (e : Key × GroupRecordRow). ok e ≡ true) (λ (e : Key × GroupRecordRow). ok e ≡ true)
      (changed_entry (λ (old : GroupRecordRow). Some (record { end = None })) (star_key j h))
      (λ x y is good. stopped_ok (star_key j h) x y is good) s.group_records (each_of_list ok s.group_records f)))

  source_due : (s : State) (j h src : ℕ) → All s → All (source_record_due s j h src)
  unfolding source_record_due
  source_due s j h src f = members_all s j h _ f

  pending_groups : (s : State) (k : Key) (d : _) → (prune_pending_due s k d).0.group_records ≡ s.group_records
  unfolding prune_pending_due
  pending_groups s k d = grind arith

  fired_all : (s : State) (kind : TimerKind) (k : Key) → All s → All (fired s kind k).0
  unfolding fired fire_row downstream_expired neighbour_due keepalive_due override_timer_due join_timer_due
      other_querier_gone querying_on group_repeat_due source_repeat_due sources_sent general_query_due hello_due
  fired_all s TimerKind.Neighbour k f = f
  fired_all s TimerKind.PrunePending k f = row_fires All s _ (row_at s.downstream k) f (λ r. by_rows s (prune_pending_due s k r).0 (pending_groups s k r) f)
  fired_all s TimerKind.DownstreamExpiry k f = f
  fired_all s TimerKind.GroupRecord k f = group_due s (iface_in k) (group_in k) f
  fired_all s TimerKind.SourceRecord k f = source_due s (iface_in k) (group_in k) _ f
  fired_all s TimerKind.Assert k f = row_fires All s _ (row_at s.asserts k) f (λ r. of_rows s (assert_due s k r).0 (assert_due_same s k r) f)
  fired_all s TimerKind.Keepalive k f = row_fires All s _ (row_at s.sources k) f (λ r. f)
  fired_all s TimerKind.Register k f =
      row_fires All s _ (row_at s.registers k) f (λ (r : RegisterRow). of_rows s (register_due s k r.state).0 (register_due_same s k r.state) f)
  fired_all s TimerKind.Override k f = f
  fired_all s TimerKind.Join k f = f
  fired_all s TimerKind.OtherQuerier k f = f
  fired_all s TimerKind.GroupRepeat k f = row_fires All s _ (row_at s.group_repeats k) f (λ r. f)
  fired_all s TimerKind.SourceRepeat k f = f
  fired_all s TimerKind.GeneralQuery k f = row_fires All s _ (row_at s.queriers k) f (λ r. f)
  fired_all s TimerKind.Hello k f = row_fires All s _ (row_at s.interfaces k) f (λ r. f)

  -- ---- any event

  module _ (s : State) (f : All s) where
    time_all : (w m : ℕ) → All (advanced s w m).state
    time_all w m =
        time_walks All (λ o t. All t) m (λ t x le h. h) (λ t x kind k le h. fired_all (record t { present = x }) kind k h)
        (λ o c x h u. of_rows c.0 (settled o c x).0 (settled_same o c x) u) s w m (no_later m) f

    done_all : (w : ℕ) (a : Accepted) → names_group i g (Some a) ≡ false → All (done s w (change s w a)).state
    unfolding done
    done_all w a off =
        of_rows (change s w a).state (settled s ((change s w a).state, (change s w a).messages) w).0
        (settled_same s ((change s w a).state, (change s w a).messages) w) (change_all s w a off f)

    taken_all : (w : ℕ) (a : Accepted) → names_group i g (Some a) ≡ false → All (taken s w a).state
    unfolding taken
    taken_all w (Accepted.Advance moment) off = time_all w moment
    taken_all w a off = done_all w a off

    full_all : (w : ℕ) (a : Accepted) (b : Bool) → names_group i g (if_done (full_or_taken s w a b).answer (Ok a)) ≡ false
        → All (full_or_taken s w a b).state
    full_all w a b off = grind (arith, taken_all, taken_done)

    concluded_all : (w : ℕ) (j : Judged) → names_group i g (if_done (concluded s (taken_unless_full s w) j).answer j) ≡ false
        → All (concluded s (taken_unless_full s w) j).state
    unfolding taken_unless_full
    concluded_all w j off = grind (arith, full_all)

  event_all : (s : State) (e : Event) → All s → names_group i g (done_as (happens s e)) ≡ false → All (step s e).state
  unfolding step done_as
  event_all s e f off = concluded_all s f e.draw (judged s e.kind) off

  -- ---- to begin with

  none_stray : (t : Table GroupRecordRow) → list_any (λ (e : Key × GroupRecordRow). same_key (star_key i g) e.0 && not (ends_within bound (e.1).end)) t ≡ false
      → list_all ok t ≡ true
  none_stray [] off = refl
  none_stray (x ∷ xs) off = step_on (same_key (star_key i g) x.0) (ends_within bound (x.1).end) _ _ off (none_stray xs)
    where
      step_on : (a b c d : Bool) → ((a && not b) || c) ≡ false → (c ≡ false → d ≡ true) → ((not a || b) && d) ≡ true
      step_on true true c d e f = f e
      step_on true false c d e f = cc e
      step_on false b c d e f = f e

  not_within : (b : Bool) → not b ≡ true → b ≡ true → ⊥
  not_within b e f = grind arith

  keys_first : (t : Table GroupRecordRow) → list_any (λ (e : Key × GroupRecordRow). same_key (star_key i g) e.0 && not (ends_within bound (e.1).end)) t ≡ true
      → list_any (λ (e : Key × GroupRecordRow). same_key (star_key i g) e.0) t ≡ true
  keys_first [] e = cc e
  keys_first (x ∷ xs) e = on (same_key (star_key i g) x.0) (not (ends_within bound (x.1).end)) _ _ e (keys_first xs)
    where
      on : (a b c d : Bool) → ((a && b) || c) ≡ true → (c ≡ true → d ≡ true) → (a || d) ≡ true
      on true b c d e f = refl
      on false b c d e f = f e

  begins : (s : State) → IsSettled s → ends_within bound (group_end s i g) ≡ true → All s
  begins s rest f = go (list_any (λ (e : Key × GroupRecordRow). same_key (star_key i g) e.0 && not (ends_within bound (e.1).end)) s.group_records) refl
    where
      by_row : list_any (λ (e : Key × GroupRecordRow). same_key (star_key i g) e.0 && not (ends_within bound (e.1).end)) s.group_records ≡ true
          → (o : Option GroupRecordRow) → row_at s.group_records (star_key i g) ≡ o → ⊥
      by_row some None none =
          both_ways (has_row s.group_records (star_key i g)) (no_row_there s.group_records (star_key i g) none)
          (has_row_any (star_key i g) s.group_records ∙ keys_first s.group_records some)
      by_row some (Some r) found =
          not_within (ends_within bound r.end)
          (only_row (star_key i g) (λ (e : Key × GroupRecordRow). not (ends_within bound (e.1).end)) r s.group_records ((rest.ordered).group_records) found some
          (λ x same at passes. subst (λ (z : GroupRecordRow). not (ends_within bound z.end) ≡ true) same passes))
          (sym (ap (λ (o : Option GroupRecordRow). ends_within bound (option_and_then (λ (z : GroupRecordRow). z.end) o)) found) ∙ f)

      go : (b : Bool) → list_any (λ (e : Key × GroupRecordRow). same_key (star_key i g) e.0 && not (ends_within bound (e.1).end)) s.group_records ≡ b → All s
      go false off = none_stray s.group_records off
      go true some = absurd (by_row some (row_at s.group_records (star_key i g)) refl)

  -- ---- the end

  not_now : (n p : ℕ) → nat_lt p n ≡ true → nat_le n bound ≡ true → bound ≤ p → ⊥
  not_now n p e f h = go (lt p n e) (le n bound f)
    where
      lt : (a b : ℕ) → nat_lt a b ≡ true → a < b
      lt a b e = grind (arith, nat_tests, e)

      le : (a b : ℕ) → nat_le a b ≡ true → a ≤ b
      le a b e = grind (arith, nat_tests, e)

      go : p < n → n ≤ bound → ⊥
      go a b = omega (arith, a, b, h)

  its_own : (a b : Bool) → (not a || b) ≡ true → a ≡ true → b ≡ true
  its_own a b e f = grind arith

  no_receivers : (s : State) → IsSettled s → All s → bound ≤ s.present → local_receiver_star s g i ≡ false
  unfolding is_exclude is_exclude_among
  no_receivers s rest f past = go (row_at s.group_records (star_key i g)) refl
    where
      runs : AllByRecursion (λ (e : Key × GroupRecordRow). Runs (nat_lt s.present) (e.1).end) s.group_records
      runs =
          rows_run (end_of TimerKind.GroupRecord) (is_sound (part_of TimerKind.GroupRecord)) s.present s.group_records
          (λ k n e. shown_is_later s.present s (rest.ahead).ends TimerKind.GroupRecord k n e)

      by_end : (end : Option ℕ) → ends_within bound end ≡ true → Runs (nat_lt s.present) end → is_some end ≡ false
      by_end None within late = refl
      by_end (Some n) within late = absurd (not_now n s.present late within past)

      go : (o : Option GroupRecordRow) → row_at s.group_records (star_key i g) ≡ o
          → option_map_or (λ (r : GroupRecordRow). is_some r.end) (row_at s.group_records (star_key i g)) false ≡ false
      go None none = ap (λ (o : Option GroupRecordRow). option_map_or (λ (r : GroupRecordRow). is_some r.end) o false) none
      go (Some r) found =
          ap (λ (o : Option GroupRecordRow). option_map_or (λ (r : GroupRecordRow). is_some r.end) o false) found
          ∙ by_end r.end
          (its_own (same_key (star_key i g) (star_key i g)) (ends_within bound r.end)
          (row_of_each (λ (e : Key × GroupRecordRow). ok e ≡ true) (star_key i g) r s.group_records (each_of_list ok s.group_records f) found)
          (same_key_same (star_key i g)))
          (row_of_each (λ (e : Key × GroupRecordRow). Runs (nat_lt s.present) (e.1).end) (star_key i g) r s.group_records runs found)

  run_ends : (events : List Event) (s : State) → IsSettled s → All s → AreSilent i g s events → bound ≤ (state_after s events).present
      → local_receiver_star (state_after s events) g i ≡ false
  unfolding state_after ran
  run_ends [] s rest f silent past = no_receivers s rest f past
  run_ends (e ∷ es) s rest f silent past =
      run_ends es (step s e).state (step_is_settled s e rest) (event_all s e f silent.0) silent.1 past

pub left_group_ends : LeftGroupEnds
left_group_ends s events i g bound rest f silent past = run_ends i g bound events s rest (begins i g bound s rest f) silent past
