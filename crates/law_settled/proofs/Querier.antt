-- The querier leaves a fine state.
use Rattle.std.{proofs.{Common.{◌≡◌, ℕ, ◌≤◌, ◌+◌, ◌-◌, nat_lt, Bool, true, false, not, cond, ◌&&◌, List, [], map, fold, filter, Option, Some, refl, ap, arith, lt-ltb, ◌∙◌}, lemmas.Option.cond_some}, specs.List.filter_map}
use Rattle.pim_types.{specs.{declared.fact.{GroupRecordRow.GroupRecordRow, GroupRepeatRow.GroupRepeatRow, Key.Key, QuerierRole.QuerierRole, QuerierRow.QuerierRow, SendingRow.SendingRow, SourceRecordRow.SourceRecordRow, SourceRepeatRow.SourceRepeatRow}, Keys.{iface_in, iface_key, is_on, same_key, source_in, source_key, star_key}}, proofs.Keys.same_key_same}
use Rattle.igmp_wire.{specs.{Codes.code_value, Values.{Query as QueryValue, Record}}}
use Rattle.pim_model.{specs.{Messages.Message, Querier.{exceeds, general_query_due, given_or, group_membership_interval, group_repeat_due, is_lower_querier, is_skipped, last_member_query_interval, last_member_query_time, lower_group, lower_queried, lower_sources, lowered, next_sending, one_sent, other_querier_gone, other_querier_interval, querier_elected, querier_row, querier_up, query_asked, query_end, query_group, query_interval, query_seen, query_sources, querying, querying_on, record_seen, report_seen, robustness, send_sources, source_end, source_repeat_due, sources_sent, startup_query_interval}, Records.{AskGroup, AskSources, Asked, GroupRecord, apply_record, is_at_group, record_of, with_record}, State.State, Tables.{Table, change_row, drop_where, is_among, is_empty_list, put, set_row}}}
use Rattle.law_settled.{proofs.{TurnLaws.{kept_in_turn, kept_by_fold}, ListLaws.by_cond, Intervals.{IsFirm, IsInForce, some_interval, some_last_member, some_membership, some_other, some_query_time, some_startup}, Parts.{GroupRecords, GroupRepeats, Queriers, Sendings, SourceRecords, SourceRepeats}, FineTables.{Fine, fine_filter_map, fine_map, fine_more, fine_put, fine_replaced, fine_set_row, good_row, fine_replaced_by}, LateEnds.{late_by, late_min}, Records.{applied_good, record_fine, record_good}, FineStates.{Lateness, Runs, Good, IsFine, rows_fine, with_row, without_rows, with_row_for_if, good_if}}}

-- ---- any end is late

abbrev any : ℕ → Bool
any n = true

-- what a fine state's queriers have in force
in_force : (late up : ℕ → Bool) (s : State) (i : ℕ) → IsFirm s.settings → Fine (Good late up Queriers) s.queriers
    → IsInForce s i
in_force late up s i firm rows = grind (arith, good_row)

-- ---- rows of queriers

row_good : (late up : ℕ → Bool) (s : State) (i next left : ℕ) → up i ≡ true → IsFirm s.settings → late next ≡ true
    → Good late up Queriers (iface_key i, querier_row s next left)
unfolding querier_row
row_good late up s i next left here firm h = grind (arith, same_key_same)

put_rows : (late up : ℕ → Bool) (s : State) (i next left : ℕ) → up i ≡ true → IsFirm s.settings → late next ≡ true
    → Fine (Good late up Queriers) s.queriers
    → Fine (Good late up Queriers) (querying s i next left).queriers
unfolding querying
put_rows late up s i next left here firm h f =
    fine_put (Good late up Queriers) s.queriers (iface_key i) (querier_row s next left)
    (row_good late up s i next left here firm h) f

changed_rows : (late up : ℕ → Bool) (s : State) (i next left : ℕ) → IsFirm s.settings → late next ≡ true
    → Fine (Good late up Queriers) s.queriers
    → Fine (Good late up Queriers) (querying_on s i next left).queriers
unfolding querying_on
changed_rows late up s i next left firm h f =
    fine_replaced_by (Good late up Queriers) (iface_key i) (querier_row s next left)
    (λ old g. row_good late up s i next left g.here firm h) s.queriers f

-- another router's row
abbrev their_row : State → ℕ → ℕ → ℕ → QuerierRow
their_row s qrv qqi end = record {
  role = QuerierRole.NonQuerier end;
  robustness = given_or qrv s.settings.robustness;
  query_interval = given_or qqi s.settings.query_interval;
}

given_some : (n c : ℕ) → nat_lt 0 c ≡ true → nat_lt 0 (given_or n c) ≡ true
given_some n c h = grind (arith, lt-ltb)

their_row_good : (late up : ℕ → Bool) (s : State) (i qrv qqi end : ℕ) → up i ≡ true → IsFirm s.settings
    → late end ≡ true
    → Good late up Queriers (iface_key i, their_row s qrv qqi end)
their_row_good late up s i qrv qqi end here firm h = grind (arith, same_key_same, given_some)

module _ (m : ℕ) (late up : ℕ → Bool) (lateness : Lateness m late) where
  any_rows : (s : State) → IsFine m late up s → Fine (Good any up Queriers) s.queriers
  any_rows s f =
      fine_more (Good late up Queriers) (Good any up Queriers)
      (λ e. good_if late any up up (λ x h. refl) Queriers e (λ h. h)) s.queriers (f.tables Queriers)

  its_force : (s : State) (i : ℕ) → IsFine m late up s → IsInForce s i
  its_force s i f = in_force late up s i f.firm (f.tables Queriers)

  ahead : (s : State) (d : ℕ) → IsFine m late up s → 1 ≤ d → late (s.present + d) ≡ true
  ahead s d f h = late_by m late lateness s.present d f.present h

  querying_fine : (s : State) (i next left : ℕ) → up i ≡ true → late next ≡ true → IsFine m late up s
      → IsFine m late up (querying s i next left)
  unfolding querying
  querying_fine s i next left here h f =
      rows_fine m late up Queriers tt s f (put s.queriers (iface_key i) (querier_row s next left))
      (put_rows late up s i next left here f.firm h (f.tables Queriers))

  querying_on_fine : (s : State) (i next left : ℕ) → late next ≡ true → IsFine m late up s
      → IsFine m late up (querying_on s i next left)
  unfolding querying_on
  querying_on_fine s i next left h f =
      rows_fine m late up Queriers tt s f _ (changed_rows late up s i next left f.firm h (f.tables Queriers))

  same_firm : (s : State) (i : ℕ) → IsFirm s.settings → IsFirm (querying s i 0 0).settings
  unfolding querying
  same_firm s i firm = firm

  same_firm_on : (s : State) (i : ℕ) → IsFirm s.settings → IsFirm (querying_on s i 0 0).settings
  unfolding querying_on
  same_firm_on s i firm = firm

  pub querier_up_fine : (s : State) (i : ℕ) → up i ≡ true → IsFine m late up s → IsFine m late up (querier_up s i).0
  unfolding querier_up
  querier_up_fine s i here f =
      querying_fine s i (s.present + startup_query_interval (querying s i 0 0) i) (s.settings.robustness - 1) here
      (ahead s (startup_query_interval (querying s i 0 0) i) f
      (some_startup (querying s i 0 0) i (in_force any up (querying s i 0 0) i (same_firm s i f.firm)
      (put_rows any up s i 0 0 here f.firm refl (any_rows s f))))) f

  pub general_query_fine : (s : State) (i left : ℕ) → IsFine m late up s
      → IsFine m late up (general_query_due s i left).0
  unfolding general_query_due
  general_query_fine s i left f =
      let force : IsInForce s i = its_force s i f in
      let long : 1000 ≤ query_interval s i = some_interval s i force in
      querying_on_fine s i (s.present + cond (nat_lt 1 left) (startup_query_interval s i) (query_interval s i))
      (left - 1)
      (ahead s (cond (nat_lt 1 left) (startup_query_interval s i) (query_interval s i)) f
      (by_cond (λ (d : ℕ). 1 ≤ d) (nat_lt 1 left) (startup_query_interval s i) (query_interval s i)
      (some_startup s i force) (omega arith))) f

  pub other_gone_fine : (s : State) (i : ℕ) → IsFine m late up s → IsFine m late up (other_querier_gone s i).0
  unfolding other_querier_gone
  other_gone_fine s i f =
      let long : 1000 ≤ query_interval (querying_on s i 0 0) i =
      some_interval (querying_on s i 0 0) i (in_force any up (querying_on s i 0 0) i (same_firm_on s i f.firm)
      (changed_rows any up s i 0 0 f.firm refl (any_rows s f))) in
      querying_on_fine s i (s.present + query_interval (querying_on s i 0 0) i) 0
      (ahead s (query_interval (querying_on s i 0 0) i) f (omega arith)) f

  elected_fine : (s : State) (i qrv qqi : ℕ) → up i ≡ true → IsFine m late up s
      → IsFine m late up (querier_elected s i qrv qqi)
  unfolding querier_elected
  elected_fine s i qrv qqi here f =
      let adopted : State = record s { queriers = put s.queriers (iface_key i) (their_row s qrv qqi 0) } in
      let some : 1 ≤ other_querier_interval adopted i =
      some_other adopted i (in_force any up adopted i f.firm
      (fine_put (Good any up Queriers) s.queriers (iface_key i) (their_row s qrv qqi 0)
      (their_row_good any up s i qrv qqi 0 here f.firm refl) (any_rows s f))) in
      let end : ℕ = s.present + other_querier_interval adopted i in
      let one : State = record s { queriers = put s.queriers (iface_key i) (their_row s qrv qqi end) } in
      let a : IsFine m late up one =
      with_row m late up Queriers tt s f (iface_key i) (their_row s qrv qqi end)
      (their_row_good late up s i qrv qqi end here f.firm (ahead s (other_querier_interval adopted i) f some)) in
      let two : State = record one { group_repeats = drop_where (is_on i) s.group_repeats } in
      let b : IsFine m late up two =
      without_rows m late up GroupRepeats tt one a (is_on i) in
      let three : State = record two { source_repeats = drop_where (is_on i) s.source_repeats } in
      let c : IsFine m late up three =
      without_rows m late up SourceRepeats tt two b (is_on i) in
      without_rows m late up Sendings tt three c (is_on i)

  -- ---- lowering

  lowered_runs : (end : ℕ) (o : Option ℕ) → late end ≡ true → Runs late o → Runs late (lowered end o)
  lowered_runs end o h f = grind (arith, late_min)

  group_lowered : ℕ → ℕ → ℕ → Key × GroupRecordRow → Key × GroupRecordRow
  group_lowered i g end e =
      cond (same_key (star_key i g) e.0)
      (let p : Key × GroupRecordRow = (e.0, record { end = lowered end (e.1).end }) in p) e

  group_lowered_key : (i g end : ℕ) (e : Key × GroupRecordRow) → (group_lowered i g end e).0 ≡ e.0
  unfolding group_lowered
  group_lowered_key i g end e = grind (arith, by_cond)

  group_lowered_good : (i g end : ℕ) → late end ≡ true → (e : Key × GroupRecordRow) → Good late up GroupRecords e
      → Good late up GroupRecords (group_lowered i g end e)
  unfolding group_lowered
  group_lowered_good i g end h e f = grind (arith, by_cond, lowered_runs)

  lower_group_fine : (s : State) (i g end : ℕ) → late end ≡ true → IsFine m late up s
      → IsFine m late up (lower_group s i g end)
  unfolding lower_group group_lowered
  lower_group_fine s i g end h f =
      rows_fine m late up GroupRecords tt s f (map (group_lowered i g end) s.group_records)
      (fine_map (Good late up GroupRecords) (group_lowered i g end) (group_lowered_key i g end)
      (group_lowered_good i g end h) s.group_records
      (f.tables GroupRecords))

  source_lowered : ℕ → ℕ → List ℕ → ℕ → Key × SourceRecordRow → Key × SourceRecordRow
  source_lowered i g sources end e =
      cond (is_at_group i g e.0 && is_among (source_in e.0) sources)
      (let p : Key × SourceRecordRow = (e.0, record { end = lowered end (e.1).end }) in p) e

  source_lowered_key : (i g : ℕ) (sources : List ℕ) (end : ℕ) (e : Key × SourceRecordRow)
      → (source_lowered i g sources end e).0 ≡ e.0
  unfolding source_lowered
  source_lowered_key i g sources end e = grind (arith, by_cond)

  source_lowered_good : (i g : ℕ) (sources : List ℕ) (end : ℕ) → late end ≡ true → (e : Key × SourceRecordRow)
      → Good late up SourceRecords e
      → Good late up SourceRecords (source_lowered i g sources end e)
  unfolding source_lowered
  source_lowered_good i g sources end h e f = grind (arith, by_cond, lowered_runs)

  lower_sources_fine : (s : State) (i g : ℕ) (sources : List ℕ) (end : ℕ) → late end ≡ true → IsFine m late up s
      → IsFine m late up (lower_sources s i g sources end)
  unfolding lower_sources source_lowered
  lower_sources_fine s i g sources end h f =
      rows_fine m late up SourceRecords tt s f (map (source_lowered i g sources end) s.source_records)
      (fine_map (Good late up SourceRecords) (source_lowered i g sources end) (source_lowered_key i g sources end)
      (source_lowered_good i g sources end h) s.source_records (f.tables SourceRecords))

  query_end_late : (s : State) (i : ℕ) → IsFine m late up s → late (query_end s i) ≡ true
  query_end_late s i f = ahead s (last_member_query_time s i) f (some_query_time s i (its_force s i f))

  -- ---- Q(G) and its repeats

  repeat_late : (s : State) → IsFine m late up s → late (s.present + last_member_query_interval s) ≡ true
  repeat_late s f = ahead s (last_member_query_interval s) f (some_last_member s 0 (its_force s 0 f))

  query_group_fine : (s : State) (i g : ℕ) → up i ≡ true → IsFine m late up s → IsFine m late up (query_group s i g).0
  unfolding query_group lower_group
  query_group_fine s i g here f =
      let repeat : GroupRepeatRow =
      record { next = s.present + last_member_query_interval s; left = robustness s i - 1 } in
      with_row m late up GroupRepeats tt (lower_group s i g (query_end s i))
      (lower_group_fine s i g (query_end s i) (query_end_late s i f) f) (star_key i g) repeat
      (same_key_same (star_key i g), repeat_late s f, here)

  pub group_repeat_fine : (s : State) (i g left : ℕ) → IsFine m late up s
      → IsFine m late up (group_repeat_due s i g left).0
  unfolding group_repeat_due
  group_repeat_fine s i g left f =
      with_row_for_if m late up GroupRepeats tt s f (nat_lt 1 left) (star_key i g)
      (record { next = s.present + last_member_query_interval s; left = left - 1 })
      (λ more old h. (same_key_same (star_key i g), repeat_late s f, h.2))

  -- ---- Q(G,X)

  sent_key : (i g : ℕ) (x y : Key × SendingRow) → one_sent i g x ≡ Some y → y.0 ≡ x.0
  sent_key i g x y e = grind arith

  sources_sent_fine : (s : State) (i g : ℕ) → IsFine m late up s → IsFine m late up (sources_sent s i g).0
  unfolding sources_sent
  sources_sent_fine s i g f =
      rows_fine m late up Sendings tt s f (filter_map (one_sent i g) s.sendings)
      (fine_filter_map (Good late up Sendings) (one_sent i g) (sent_key i g)
      (λ x y e h. ap (λ (q : Key). up (iface_in q)) (sent_key i g x y e) ∙ h) s.sendings (f.tables Sendings))

  sending_good : (s : State) (i g : ℕ) → up i ≡ true → IsFine m late up s → (r : SourceRepeatRow)
      → next_sending s i g ≡ Some r
      → Good late up SourceRepeats (star_key i g, r)
  unfolding next_sending
  sending_good s i g here f r e = grind (arith, cond_some, same_key_same, repeat_late)

  send_sources_fine : (s : State) (i g : ℕ) → up i ≡ true → IsFine m late up s → IsFine m late up (send_sources s i g).0
  unfolding send_sources sources_sent
  send_sources_fine s i g here f =
      let sent : State = (sources_sent s i g).0 in
      let h : IsFine m late up sent = sources_sent_fine s i g f in
      rows_fine m late up SourceRepeats tt sent h (set_row s.source_repeats (star_key i g) (next_sending sent i g))
      (fine_set_row (Good late up SourceRepeats) s.source_repeats (star_key i g) (next_sending sent i g)
      (sending_good sent i g here h) (f.tables SourceRepeats))

  pub source_repeat_fine : (s : State) (i g : ℕ) → IsFine m late up s → IsFine m late up (source_repeat_due s i g).0
  unfolding source_repeat_due sources_sent
  source_repeat_fine s i g f =
      let sent : State = (sources_sent s i g).0 in
      let h : IsFine m late up sent = sources_sent_fine s i g f in
      rows_fine m late up SourceRepeats tt sent h
      (change_row (λ (old : SourceRepeatRow). next_sending sent i g) (star_key i g) s.source_repeats)
      (fine_replaced (Good late up SourceRepeats) (next_sending sent i g) (star_key i g)
      (λ old r e k. sending_good sent i g k.2 h r e) s.source_repeats (f.tables SourceRepeats))

  query_sources_fine : (s : State) (i g : ℕ) (asked : List ℕ) → up i ≡ true → IsFine m late up s
      → IsFine m late up (query_sources s i g asked).0
  unfolding query_sources lower_sources
  query_sources_fine s i g asked here f = go (is_empty_list sources)
    where
      sources : List ℕ
      sources = filter (λ src. exceeds (query_end s i) (source_end s i g src)) asked

      counted : Table SendingRow
      counted = fold (λ t src. put t (source_key i g src) (record { left = robustness s i })) s.sendings sources

      lower : State
      lower = record (lower_sources s i g sources (query_end s i)) { sendings = counted }

      go : (b : Bool) → IsFine m late up
          (elim b as (λ b. State × List Message) [ true ↦ (s, []) | false ↦ send_sources lower i g ]).0
      go true = f
      go false = send_sources_fine lower i g here
          (rows_fine m late up Sendings tt (lower_sources s i g sources (query_end s i))
          (lower_sources_fine s i g sources (query_end s i) (query_end_late s i f) f) counted
          (kept_by_fold (λ t src. put t (source_key i g src) (record { left = robustness s i }))
          (Fine (Good late up Sendings))
          (λ t src h. fine_put (Good late up Sendings) t (source_key i g src) (record { left = robustness s i }) here h)
          sources s.sendings (f.tables Sendings)))

  asked_fine : (i g : ℕ) → up i ≡ true → (s : State) (a : Asked) → IsFine m late up s
      → IsFine m late up (query_asked i g s a).0
  unfolding query_asked
  asked_fine i g here s AskGroup f = query_group_fine s i g here f
  asked_fine i g here s (AskSources sources) f = query_sources_fine s i g sources here f

  -- ---- what comes in

  record_seen_fine : (i : ℕ) → up i ≡ true → (s : State) (r : Record) → IsFine m late up s
      → IsFine m late up (record_seen i s r).0
  unfolding record_seen
  record_seen_fine i here s r f =
      let full : ℕ = s.present + group_membership_interval s i in
      let applied : GroupRecord × List Asked = apply_record full (record_of s i r.group) r.type r.sources in
      let written : State = with_record s i r.group applied.0 in
      let h : IsFine m late up written =
      record_fine m late up s i r.group applied.0 here
      (applied_good late (up i ≡ true) here full
      (ahead s (group_membership_interval s i) f (some_membership s i (its_force s i f)))
      (record_of s i r.group) (record_good m late up s i r.group f) r.type r.sources) f in
      by_cond (λ (p : State × List Message). IsFine m late up p.0) _ _ (written, [])
      (kept_in_turn (query_asked i r.group) (IsFine m late up) (asked_fine i r.group here) applied.1 written h) h

  pub report_fine : (s : State) (i : ℕ) (records : List Record) → up i ≡ true → IsFine m late up s
      → IsFine m late up (report_seen s i records).0
  unfolding report_seen
  report_fine s i records here f =
      kept_in_turn (record_seen i) (IsFine m late up) (record_seen_fine i here)
      (filter (λ r. not (is_skipped r)) records) s f

  queried_fine : (s : State) (i : ℕ) (q : QueryValue) → IsFine m late up s → IsFine m late up (lower_queried s i q)
  unfolding lower_queried
  queried_fine s i q f =
      by_cond (IsFine m late up) _ s _ f
      (by_cond (IsFine m late up) _ (lower_group s i q.group (query_end s i))
      (lower_sources s i q.group q.sources (query_end s i))
      (lower_group_fine s i q.group (query_end s i) (query_end_late s i f) f)
      (lower_sources_fine s i q.group q.sources (query_end s i) (query_end_late s i f) f))

  pub query_fine : (s : State) (i from : ℕ) (q : QueryValue) → up i ≡ true → IsFine m late up s
      → IsFine m late up (query_seen s i from q)
  unfolding query_seen
  query_fine s i from q here f =
      queried_fine (cond (is_lower_querier s i from) (querier_elected s i q.robustness (code_value q.interval_code)) s)
      i q
      (by_cond (IsFine m late up) (is_lower_querier s i from)
      (querier_elected s i q.robustness (code_value q.interval_code)) s
      (elected_fine s i q.robustness (code_value q.interval_code) here f) f)
