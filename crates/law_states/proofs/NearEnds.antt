-- Each keepalive timer that runs ends no later than 210 s after the present.
use Rattle.std.{proofs.{Common.{◌≡◌, ◌∙◌, ℕ, ◌+◌, ◌≤◌, not, nat_le, Bool, true, false, cond, List, [], ◌∷◌, filter, Option, option_map, Some, None, option_and_then, is_some, refl, sym, ap, subst, arith}, lemmas.Bool.Decides.nat_tests}, specs.{List.AllByRecursion, Option.option_map_or}}
use Rattle.pim_ip.{specs.Ipv4.Packet}
use Rattle.pim_types.{specs.{Keys.same_key, declared.{config.Config.Config, event.Event.Event, fact.{AssertMetric.AssertMetric, AssertRow.AssertRow, DownstreamRow.DownstreamRow, Key.Key, SourceRow.SourceRow}, timer.TimerKind.TimerKind}}}
use Rattle.pim_wire.{specs.{declared.{assert.Assert.Assert as AssertMessage, hello.Hello.Hello as HelloValue}, Values.JoinPrune}}
use Rattle.igmp_wire.{specs.Values.{Query as QueryValue, Record}}
use Rattle.pim_model.{specs.{declared.accepted.Accepted.Accepted, Asserts.{assert_as_loser, assert_as_winner, assert_at, assert_due, assert_forgotten, assert_in_no_info, assert_received, data_seen, loses, loses_first, wins, wins_again, with_spt_bit, without_spt, without_spt_bit}, Clearing.clear, Downstream.{asserts_after_joins, downstream_expired, keys_taken, prune_pending_due, to_me}, Firing.{fire_row, fired, keepalive_due, settled}, Forwarding.{forwarded, list_chosen, register_at_rp, register_received, source_here, source_joined, spt_updated, stray, watched, when}, Hellos.{hello_due, hello_received, hello_triggered, neighbour_due, neighbour_replaced, neighbour_restarted}, Messages.Message, Querier.{general_query_due, group_record_due, group_repeat_due, lower_group, is_querier, is_skipped, lower_queried, lower_sources, other_querier_gone, querier_elected, querier_up, query_asked, query_group, query_seen, query_sources, querying, record_seen, report_seen, send_sources, querying_on, source_record_due, source_repeat_due, sources_sent}, Records.{Asked, with_members, with_record, with_repeats_of_rows}, Registers.{keepalive_period, register_due, register_stop_seen, settle_register, settle_registers, with_keepalive}, Seen.{cancel_override_timer, lower_join_timer, lower_override_timer, raise_join_timer, seen}, Sets.is_winner, State.{State, opening}, Step.{advanced, change, iface_down, iface_up, ran, rps_replaced, state_after, step}, Tables.{Table, change_row, changed_entry, put}, Upstream.{join_timer_due, override_timer_due, upstream}, Writing.write_all}}
use Rattle.law_settled.{proofs.{ListLaws.{by_cond, each_filter_map, each_more, list_of_each}, RowLaws.each_put, SettlingLaws.kept_by_clearing, TableLaws.row_of_each, TurnLaws.kept_in_turn, SeenLaws.kept_by_seen, Unsettled.{Unsettled, settling_leaves, telling_leaves}}}
use Rattle.law_streams.{proofs.{LiesUnder.row_fires, Walks.{event_walks, time_walks}, EndSoon.{no_later, change_present, there}}}
use Rattle.law_states.{specs.Near.{EachKeepaliveIsNear, is_near}}

-- what is asked: the present, and the sources
pub record Kat : Type 0 where
  pub present : ℕ
  pub sources : Table SourceRow

abbrev pub kat : State → Kat
kat s = record { present = s.present; sources = s.sources }

-- ---- what leaves both

to_me_kat : (s : State) (i : ℕ) (m : JoinPrune) → kat (to_me s i m) ≡ kat s
unfolding to_me keys_taken asserts_after_joins
to_me_kat s i m = refl

query_kat : (s : State) (i from : ℕ) (q : QueryValue) → kat (query_seen s i from q) ≡ kat s
unfolding query_seen lower_queried querier_elected lower_group lower_sources
query_kat s i from q = grind arith

hello_kat : (s : State) (i address : ℕ) (h : HelloValue) (w : ℕ) → kat (hello_received s i address h w) ≡ kat s
unfolding hello_received hello_triggered neighbour_replaced neighbour_restarted
hello_kat s i address h w = grind arith

seen_kat : (s : State) (w i : ℕ) (m : JoinPrune) → kat (seen s w i m) ≡ kat s
unfolding raise_join_timer lower_join_timer cancel_override_timer lower_override_timer
seen_kat s w i m =
    kept_by_seen (λ t. kat t ≡ kat s) s w i m (λ t k end f. f) (λ t k f. f) (λ t k f. f) (λ t k f. f) refl

asked_kat : (i g : ℕ) (s : State) (a : Asked) → kat (query_asked i g s a).0 ≡ kat s
unfolding query_asked query_group lower_group query_sources lower_sources send_sources sources_sent
asked_kat i g s a = grind arith

record_kat : (i : ℕ) (s : State) (r : Record) → kat (record_seen i s r).0 ≡ kat s
unfolding record_seen with_record with_members with_repeats_of_rows
record_kat i s r =
    by_cond (λ (p : State × List Message). kat p.0 ≡ kat s) (is_querier s i) _ _
    (kept_in_turn (query_asked i r.group) (λ t. kat t ≡ kat s) (λ t a f. asked_kat i r.group t a ∙ f) _ _ refl) refl

report_kat : (s : State) (i : ℕ) (records : List Record) → kat (report_seen s i records).0 ≡ kat s
unfolding report_seen
report_kat s i records =
    kept_in_turn (record_seen i) (λ t. kat t ≡ kat s) (λ t r f. record_kat i t r ∙ f)
    (filter (λ r. not (is_skipped r)) records) s refl

pending_kat : (s : State) (k : Key) (r : DownstreamRow) → kat (prune_pending_due s k r).0 ≡ kat s
unfolding prune_pending_due
pending_kat s k r = grind arith

assert_due_kat : (s : State) (k : Key) (r : AssertRow) → kat (assert_due s k r).0 ≡ kat s
unfolding assert_due wins_again assert_forgotten
assert_due_kat s k r = grind arith

module _ (last : ℕ) where
  abbrev pub IsBy : Option ℕ → Type 0
  IsBy None = Unit {0}
  IsBy (Some end) = end ≤ last + keepalive_period

  abbrev pub EndBy : Table SourceRow → Type 0
  EndBy t = AllByRecursion (λ e. IsBy (e.1).keepalive) t

  pub record Near (k : Kat) : Type 0 where
    pub now : k.present ≤ last
    pub ends : EndBy k.sources

  abbrev pub IsNear : State → Type 0
  IsNear s = Near (kat s)

  same_near : (s t : State) → kat t ≡ kat s → IsNear s → IsNear t
  same_near s t e f = subst Near (sym e) f

  by_then : (p : ℕ) → p ≤ last → p + keepalive_period ≤ last + keepalive_period
  by_then p le = omega (arith, le)

  -- ---- a row that is put, changed or goes

  put_near : (s : State) (k : Key) (row : SourceRow) → IsBy row.keepalive → IsNear s
      → IsNear (record s { sources = put s.sources k row })
  put_near s k row by f = record { now = f.now; ends = each_put k row (λ e. IsBy (e.1).keepalive) by s.sources f.ends }

  changed_by : (change : SourceRow → Option SourceRow) (k : Key)
      → ((r q : SourceRow) → change r ≡ Some q → IsBy r.keepalive → IsBy q.keepalive) → (x y : Key × SourceRow) → (b : Bool)
      → (o : Option SourceRow) → change x.1 ≡ o
      → cond b (option_map (λ (r : SourceRow). let p : Key × SourceRow = (x.0, r) in p) o) (Some x) ≡ Some y
      → IsBy (x.1).keepalive → IsBy (y.1).keepalive
  changed_by change k keeps x y z o is e f = grind arith

  change_near : (s : State) (change : SourceRow → Option SourceRow) (k : Key)
      → ((r q : SourceRow) → change r ≡ Some q → IsBy r.keepalive → IsBy q.keepalive) → IsNear s
      → IsNear (record s { sources = change_row change k s.sources })
  unfolding change_row changed_entry
  change_near s change k keeps f = record {
    now = f.now;
    ends = each_filter_map (λ e. IsBy (e.1).keepalive) (λ e. IsBy (e.1).keepalive) _
        (λ x y e h. changed_by change k keeps x y (same_key k x.0) (change x.1) refl e h) s.sources f.ends;
  }

  alive_near : (s : State) (g src : ℕ) → IsNear s → IsNear (with_keepalive s g src)
  unfolding with_keepalive
  alive_near s g src f = grind (arith, put_near, by_then)

  its_end : (o : Option SourceRow) → ((r : SourceRow) → o ≡ Some r → IsBy r.keepalive)
      → IsBy (option_and_then (λ (r : SourceRow). r.keepalive) o)
  its_end o f = grind arith

  spt_near : (s : State) (g src : ℕ) → IsNear s → IsNear (with_spt_bit s g src)
  unfolding with_spt_bit
  spt_near s g src f = grind (arith, put_near, its_end, row_of_each)

  unset_keeps : (r q : SourceRow) → (b : Bool) → cond b (Some (let u : SourceRow = record r { spt = false } in u)) None ≡ Some q
      → IsBy r.keepalive → IsBy q.keepalive
  unset_keeps r q b e f = grind arith

  unset_near : (s : State) (k : Key) → IsNear s → IsNear (without_spt_bit s k)
  unfolding without_spt_bit
  unset_near s k f = change_near s without_spt k (λ r q e h. unset_keeps r q (is_some r.keepalive) e h) f

  due_keeps : (row r q : SourceRow) (b : Bool)
      → cond b (Some (let u : SourceRow = record row { keepalive = None } in u)) None ≡ Some q → IsBy q.keepalive
  due_keeps row r q b e = grind arith

  due_near : (s : State) (k : Key) (row : SourceRow) → IsNear s → IsNear (keepalive_due s k row)
  unfolding keepalive_due
  due_near s k row f = grind (arith, change_near, due_keeps)

  -- ---- what follows

  clear_near : (o s : State) → IsNear s → IsNear (clear o s).0
  unfolding settle_registers assert_forgotten
  clear_near o s f =
      kept_by_clearing IsNear (λ t k g. record { now = g.now; ends = g.ends }) (λ t k g. unset_near t k g) o s
      (record { now = f.now; ends = f.ends })

  upstream_kat : (o a : State) (w : ℕ) → kat (upstream o a w).0 ≡ kat a
  upstream_kat o a w = grind (arith, telling_leaves)

  settled_near : (o : State) (c : State × List Message) (w : ℕ) → IsNear c.0 → IsNear (settled o c w).0
  unfolding settled write_all
  settled_near o c w f = grind (arith, same_near, upstream_kat, clear_near)

  -- ---- the ends of rows

  fires_near : (s : State) (kind : TimerKind) (k : Key) → IsNear s → IsNear (fired s kind k).0
  unfolding fired fire_row downstream_expired neighbour_due override_timer_due join_timer_due
      other_querier_gone querying_on general_query_due hello_due register_due group_repeat_due source_repeat_due sources_sent
      group_record_due source_record_due with_members with_repeats_of_rows
  fires_near s kind k f = grind (arith, row_fires, same_near, pending_kat, assert_due_kat, due_near)

  -- ---- data

  when_near : (b : Bool) (change : State → State) (s : State) → ((t : State) → IsNear t → IsNear (change t)) → IsNear s
      → IsNear (when b change s)
  when_near b change s f h = grind arith

  module _ (g src iif : ℕ) where
    here_near : (s : State) → IsNear s → IsNear (source_here s g src iif)
    unfolding source_here settle_register
    here_near s f = grind (arith, alive_near, by_cond)

    joined_near : (s : State) → IsNear s → IsNear (source_joined s g src iif)
    unfolding source_joined
    joined_near s f = when_near _ (λ u. with_keepalive u g src) s (λ t. alive_near t g src) f

    updated_near : (s : State) → IsNear s → IsNear (spt_updated s g src iif)
    unfolding spt_updated
    updated_near s f = when_near _ (λ u. with_spt_bit u g src) s (λ t. spt_near t g src) f

    watched_near : (s : State) → IsNear s → IsNear (watched s g src)
    unfolding watched
    watched_near s f = when_near _ (λ u. with_keepalive u g src) s (λ t. alive_near t g src) f

    stray_kat : (s : State) → kat (stray s g src iif).state ≡ kat s
    unfolding stray data_seen wins
    stray_kat s = grind arith

    chosen_near : (s : State) → IsNear s → IsNear (list_chosen s g src iif).state
    unfolding list_chosen
    chosen_near s f = grind (arith, by_cond, watched_near, same_near, stray_kat)

    forwarded_near : (s : State) → IsNear s → IsNear (forwarded s g src iif).state
    unfolding forwarded
    forwarded_near s f = chosen_near _ (updated_near _ (joined_near _ (here_near s f)))

  register_near : (s : State) (p : Packet) (g src : ℕ) (is_null : Bool) → IsNear s
      → IsNear (register_received s p g src is_null).state
  unfolding register_received register_at_rp
  register_near s p g src is_null f = grind (arith, by_cond, when_near, alive_near)

  -- ---- an Assert

  lost_near : (s : State) (k : Key) (theirs : AssertMetric) → IsNear s → IsNear (loses_first s k theirs)
  unfolding loses_first loses
  lost_near s k theirs f = grind (arith, by_cond, spt_near)

  wins_kat : (s : State) (k : Key) → kat (wins s k).0 ≡ kat s
  unfolding wins
  wins_kat s k = refl

  no_info_near : (s : State) (k : Key) (theirs : AssertMetric) → IsNear s → IsNear (assert_in_no_info s k theirs).0
  unfolding assert_in_no_info
  no_info_near s k theirs f = grind (arith, by_cond, same_near, wins_kat, lost_near)

  row_kat : (s : State) (k : Key) (r : AssertRow) (theirs : AssertMetric)
      → kat (let p : State × List Message = cond (is_winner (Some r)) (assert_as_winner s k r theirs) (assert_as_loser s k r theirs, []) in p.0)
      ≡ kat s
  unfolding assert_as_winner assert_as_loser loses wins_again assert_forgotten
  row_kat s k r theirs = grind arith

  row_near : (s : State) (k : Key) (r : AssertRow) (theirs : AssertMetric) → IsNear s
      → IsNear (let p : State × List Message = cond (is_winner (Some r)) (assert_as_winner s k r theirs) (assert_as_loser s k r theirs, []) in p.0)
  row_near s k r theirs f = subst Near (sym (row_kat s k r theirs)) f

  at_near : (s : State) (k : Key) (theirs : AssertMetric) → IsNear s → IsNear (assert_at s k theirs).0
  unfolding assert_at
  at_near s k theirs f = grind (arith, no_info_near, row_near)

  received_near : (s : State) (i from : ℕ) (a : AssertMessage) → IsNear s → IsNear (assert_received s i from a).0
  unfolding assert_received
  received_near s i from a f = grind (arith, at_near)

  -- ---- each event's own change

  near_changes : (s : State) (w : ℕ) (a : Accepted) → IsNear s → IsNear (change s w a).state
  unfolding change iface_up querier_up querying rps_replaced register_stop_seen iface_down
  near_changes s w a f =
      grind (arith, same_near, hello_kat, to_me_kat, seen_kat, received_near, query_kat, report_kat, forwarded_near, register_near)

  near_moves : (s : State) (m : ℕ) → m ≤ last → IsNear s → IsNear (record s { present = m })
  near_moves s m le f = record { now = le; ends = f.ends }

-- ---- at its present

abbrev pub EndsNear : State → Type 0
EndsNear s = IsNear s.present s

pub by_later : (a b : ℕ) → a ≤ b → (o : Option ℕ) → IsBy a o → IsBy b o
by_later a b le o f = grind arith

near_later : (a b : ℕ) → a ≤ b → (s : State) → IsNear a s → IsNear b s
near_later a b le s f = grind (arith, each_more, by_later)

time_near : (s : State) (w moment : ℕ) → s.present ≤ moment → EndsNear s → EndsNear (advanced s w moment).state
time_near s w moment le f =
    subst (λ (n : ℕ). IsNear n (advanced s w moment).state) (sym (there s w moment))
    (time_walks (IsNear moment) (λ o t. IsNear moment t) moment (near_moves moment)
    (λ t m kind k le g. fires_near moment (record t { present = m }) kind k (near_moves moment t m le g))
    (λ o c w g h. settled_near moment o c w h) s w moment (no_later moment) (near_later s.present moment le s f))

pub settled_at : (o : State) (c : State × List Message) (w : ℕ) → EndsNear c.0 → EndsNear (settled o c w).0
settled_at o c w f =
    subst (λ (n : ℕ). IsNear n (settled o c w).0) (sym (ap (λ (u : Unsettled). u.present) (settling_leaves o c w)))
    (settled_near (c.0).present o c w f)

changed_near : (s : State) (w : ℕ) (a : Accepted) → EndsNear s → EndsNear (change s w a).state
changed_near s w a f =
    subst (λ (n : ℕ). IsNear n (change s w a).state) (sym (change_present s w a)) (near_changes s.present s w a f)

pub step_near : (s : State) (e : Event) → EndsNear s → EndsNear (step s e).state
step_near s e f =
    event_walks EndsNear (λ o t. EndsNear t) s e f (λ moment le. time_near s e.draw moment le f)
    (λ a is. changed_near s e.draw a f) (λ o c w g h. settled_at o c w h)

ran_near : (events : List Event) (s : State) → EndsNear s → EndsNear (ran s events).1
unfolding ran
ran_near [] s f = f
ran_near (e ∷ es) s f = ran_near es (step s e).state (step_near s e f)

pub opening_near : (c : Config) → EndsNear (opening c)
unfolding opening
opening_near c = record { now = no_later 0; ends = tt }

pub near_after : (events : List Event) (s : State) → EndsNear s → EndsNear (state_after s events)
unfolding state_after
near_after events s f = ran_near events s f

-- ---- as a test

module _ (m : ℕ) where
  pub tested : (o : Option ℕ) → IsBy m o → option_map_or (λ (end : ℕ). nat_le end (m + keepalive_period)) o true ≡ true
  tested o f = grind (arith, nat_tests)

pub each_keepalive_is_near : EachKeepaliveIsNear
unfolding is_near
each_keepalive_is_near c events e = grind (arith, list_of_each, each_more, tested, near_after, opening_near)
