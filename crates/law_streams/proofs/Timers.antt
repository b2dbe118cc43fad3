-- Which Join timers run: no event's own change, and no timer's end, starts or stops one.
use Rattle.std.{proofs.Common.{◌≡◌, ◌∙◌, ℕ, ◌+◌, ◌||◌, Bool, true, false, not, cond, List, [], filter, Option, is_some, refl, ap, arith}, specs.Option.option_map_or}
use Rattle.pim_ip.{specs.Ipv4.Packet}
use Rattle.pim_types.{specs.{Keys.same_key, declared.{fact.{AssertMetric.AssertMetric, AssertRow.AssertRow, JoinTimerRow.JoinTimerRow, Key.Key, RegisterState.RegisterState}, timer.TimerKind.TimerKind}}, proofs.Keys.equal_keys}
use Rattle.pim_wire.{specs.{Values.JoinPrune, declared.{assert.Assert.Assert as AssertMessage, hello.Hello.Hello as HelloValue}}}
use Rattle.igmp_wire.{specs.Values.{Query as QueryValue, Record}}
use Rattle.pim_model.{specs.{declared.accepted.Accepted.Accepted, Asserts.{assert_as_loser, assert_as_winner, assert_at, assert_due, assert_forgotten, assert_in_no_info, assert_received, data_seen, loses, loses_first, wins, wins_again, with_spt_bit}, Downstream.{downstream_expired, keys_taken, prune_pending_due, to_me}, Firing.{fire_row, fired, keepalive_due}, Forwarding.{forwarded, list_chosen, register_at_rp, register_received, source_here, source_joined, spt_updated, stray, watched}, Hellos.{hello_due, hello_received, hello_triggered, neighbour_due, neighbour_replaced, neighbour_restarted}, Messages.Message, Neighbours.is_neighbour, Querier.{each_in_turn, general_query_due, group_membership_interval, group_record_due, group_repeat_due, is_querier, is_skipped, lower_group, lower_queried, lower_sources, other_querier_gone, querier_elected, querier_up, query_asked, query_group, query_seen, query_sources, querying, querying_on, record_seen, report_seen, send_sources, source_record_due, source_repeat_due, sources_sent}, Records.{Asked, GroupRecord, apply_record, record_of, with_members, with_record, with_repeats_of_rows}, Registers.{register_due, register_stop_seen, settle_register, with_keepalive}, Seen.{cancel_override_timer, lower_join_timer, lower_override_timer, override_end, raise_join_timer, seen}, State.State, Step.{change, iface_down, iface_up, rps_replaced}, Tables.{Table, has_row, row_at, set_row}, Upstream.{join_timer_due, override_timer_due, periodic_end}}}
use Rattle.law_settled.{proofs.{RowLaws.{has_row_map, has_row_put, has_row_replaced, has_row_without}, TurnLaws.kept_in_turn, SeenLaws.kept_by_seen}}

-- the same Join timers run in both states
abbrev pub SameTimers : State → State → Type 0
SameTimers s t = (k : Key) → has_row t.join_timers k ≡ has_row s.join_timers k

pub by_table : (s t : State) → t.join_timers ≡ s.join_timers → SameTimers s t
by_table s t e k = ap (λ (x : Table JoinTimerRow). has_row x k) e

-- a row that is set
pub has_row_set : {R : Type 0} (t : Table R) (k q : Key) (o : Option R)
    → has_row (set_row t k o) q ≡ cond (same_key q k) (is_some o) (has_row t q)
unfolding set_row
has_row_set t k q o = grind (arith, has_row_without, has_row_put)

-- where a row's end is moved, it is there as before
still_there : {R : Type 0} (t : Table R) (k q : Key) (o : Option R) → is_some o ≡ has_row t k
    → has_row (set_row t k o) q ≡ has_row t q
still_there t k q o e = grind (arith, has_row_set, equal_keys)

-- ---- asserts, data, Registers

abbrev Untouched : State → State → Type 0
Untouched s t = t.join_timers ≡ s.join_timers

assert_at_leaves : (s : State) (k : Key) (theirs : AssertMetric) → Untouched s (assert_at s k theirs).0
unfolding assert_at assert_in_no_info assert_as_winner assert_as_loser wins wins_again loses loses_first with_spt_bit
    assert_forgotten
assert_at_leaves s k theirs = grind arith

assert_leaves : (s : State) (i from : ℕ) (a : AssertMessage) → Untouched s (assert_received s i from a).0
unfolding assert_received
assert_leaves s i from a = grind (arith, assert_at_leaves)

assert_due_leaves : (s : State) (k : Key) (r : AssertRow) → Untouched s (assert_due s k r).0
unfolding assert_due wins_again assert_forgotten
assert_due_leaves s k r = grind arith

data_seen_leaves : (s : State) (k : Key) → Untouched s (data_seen s k).0
unfolding data_seen wins
data_seen_leaves s k = grind arith

module _ (s : State) (g src : ℕ) where
  here_leaves : (iif : ℕ) → Untouched s (source_here s g src iif)
  unfolding source_here settle_register with_keepalive
  here_leaves iif = grind arith

  joined_leaves : (iif : ℕ) → Untouched s (source_joined s g src iif)
  unfolding source_joined with_keepalive
  joined_leaves iif = grind arith

  spt_leaves : (iif : ℕ) → Untouched s (spt_updated s g src iif)
  unfolding spt_updated with_spt_bit
  spt_leaves iif = grind arith

  watched_leaves : Untouched s (watched s g src)
  unfolding watched with_keepalive
  watched_leaves = grind arith

  chosen_leaves : (iif : ℕ) → Untouched s (list_chosen s g src iif).state
  unfolding list_chosen stray
  chosen_leaves iif = grind (arith, watched_leaves, data_seen_leaves)

forwarded_leaves : (s : State) (g src iif : ℕ) → Untouched s (forwarded s g src iif).state
unfolding forwarded
forwarded_leaves s g src iif = grind (arith, chosen_leaves, spt_leaves, joined_leaves, here_leaves)

register_leaves : (s : State) (p : Packet) (g src : ℕ) (b : Bool) → Untouched s (register_received s p g src b).state
unfolding register_received register_at_rp with_keepalive
register_leaves s p g src b = grind arith

register_due_leaves : (s : State) (k : Key) (state : RegisterState) → Untouched s (register_due s k state).0
unfolding register_due
register_due_leaves s k state = grind arith

-- ---- hosts

module _ (i g : ℕ) where
  asked_leaves : (s : State) (a : Asked) → Untouched s (query_asked i g s a).0
  unfolding query_asked query_group query_sources lower_group lower_sources send_sources sources_sent
  asked_leaves s a = grind arith

  members_leave : (s : State) (r : GroupRecord) → Untouched s (with_members s i g r)
  unfolding with_members with_repeats_of_rows
  members_leave s r = refl

module _ (i : ℕ) (s : State) (r : Record) where
  abbrev applied : GroupRecord × List Asked
  applied = apply_record (s.present + group_membership_interval s i) (record_of s i r.group) r.type r.sources

  abbrev written : State
  written = with_record s i r.group applied.0

  written_leaves : Untouched s written
  unfolding with_record
  written_leaves = members_leave i r.group _ applied.0

  record_leaves : Untouched s (record_seen i s r).0
  unfolding record_seen
  record_leaves = go (is_querier s i)
    where
      go : (b : Bool) → Untouched s (cond b (each_in_turn (query_asked i r.group) written applied.1) (written, [])).0
      go true =
          kept_in_turn (query_asked i r.group) (Untouched s) (λ t a f. asked_leaves i r.group t a ∙ f) applied.1 written
          written_leaves
      go false = written_leaves

report_leaves : (s : State) (i : ℕ) (records : List Record) → Untouched s (report_seen s i records).0
unfolding report_seen
report_leaves s i records =
    kept_in_turn (record_seen i) (Untouched s) (λ t r f. record_leaves i t r ∙ f) (filter (λ r. not (is_skipped r)) records) s
    refl

query_leaves : (s : State) (i from : ℕ) (q : QueryValue) → Untouched s (query_seen s i from q)
unfolding query_seen lower_queried querier_elected lower_group lower_sources
query_leaves s i from q = grind arith

-- ---- Hellos

restarted_keeps : (o : State) (i address w : ℕ) (s : State) → SameTimers s (neighbour_restarted o i address w s)
unfolding neighbour_restarted
restarted_keeps o i address w s k = grind (arith, has_row_map)

module _ (s : State) (i address : ℕ) (h : HelloValue) (w : ℕ) where
  abbrev replaced : Bool → State
  replaced b = neighbour_replaced (cond (b || not (is_neighbour s i address)) (hello_triggered s i w) s) i address h

  replaced_leaves : (b : Bool) → Untouched s (replaced b)
  unfolding neighbour_replaced hello_triggered
  replaced_leaves b = grind arith

  hello_keeps : SameTimers s (hello_received s i address h w)
  unfolding hello_received
  hello_keeps = grind (arith, by_table, replaced_leaves, restarted_keeps)

-- ---- Join/Prunes between other routers

raised_keeps : (s : State) (k : Key) (end : ℕ) → SameTimers s (raise_join_timer s k end)
unfolding raise_join_timer has_row
raised_keeps s k end q = grind (arith, still_there)

lowered_keeps : (s : State) (k : Key) (end : ℕ) → SameTimers s (lower_join_timer s k end)
unfolding lower_join_timer has_row
lowered_keeps s k end q = grind (arith, still_there)

seen_keeps : (s : State) (w i : ℕ) (m : JoinPrune) → SameTimers s (seen s w i m)
unfolding cancel_override_timer lower_override_timer
seen_keeps s w i m =
    kept_by_seen (SameTimers s) s w i m (λ t k end f q. raised_keeps t k end q ∙ f q)
    (λ t k f q. lowered_keeps t k (override_end s i w) q ∙ f q) (λ t k f. f) (λ t k f. f) (λ q. refl)

-- ---- every event, and every timer

pub change_keeps : (s : State) (w : ℕ) (a : Accepted) → SameTimers s (change s w a).state
unfolding change iface_up querier_up querying iface_down rps_replaced to_me keys_taken register_stop_seen
change_keeps s w a k =
    grind (arith, hello_keeps, seen_keeps, by_table, assert_leaves, query_leaves, report_leaves, forwarded_leaves, register_leaves)

row_fires : {R : Type 0} (s : State) (o : Option R) (fire : R → State × List Message) → ((r : R) → SameTimers s (fire r).0)
    → SameTimers s (option_map_or fire o (s, [])).0
row_fires s o fire f = grind arith

pub fired_keeps : (s : State) (kind : TimerKind) (k : Key) → SameTimers s (fired s kind k).0
unfolding fired fire_row prune_pending_due downstream_expired neighbour_due keepalive_due override_timer_due join_timer_due
    other_querier_gone querying_on group_repeat_due source_repeat_due sources_sent general_query_due hello_due
    group_record_due source_record_due
fired_keeps s TimerKind.Neighbour k = λ q. refl
fired_keeps s TimerKind.PrunePending k = grind (arith, row_fires)
fired_keeps s TimerKind.DownstreamExpiry k = λ q. refl
fired_keeps s TimerKind.GroupRecord k = grind (arith, by_table, members_leave)
fired_keeps s TimerKind.SourceRecord k = grind (arith, by_table, members_leave)
fired_keeps s TimerKind.Assert k = grind (arith, row_fires, by_table, assert_due_leaves)
fired_keeps s TimerKind.Keepalive k = row_fires s (row_at s.sources k) _ (λ r q. refl)
fired_keeps s TimerKind.Register k = grind (arith, row_fires, by_table, register_due_leaves)
fired_keeps s TimerKind.Override k = λ q. refl
fired_keeps s TimerKind.Join k = λ q. has_row_replaced q (record { end = periodic_end s }) k s.join_timers
fired_keeps s TimerKind.OtherQuerier k = λ q. refl
fired_keeps s TimerKind.GroupRepeat k = row_fires s (row_at s.group_repeats k) _ (λ r q. refl)
fired_keeps s TimerKind.SourceRepeat k = λ q. refl
fired_keeps s TimerKind.GeneralQuery k = row_fires s (row_at s.queriers k) _ (λ r q. refl)
fired_keeps s TimerKind.Hello k = row_fires s (row_at s.interfaces k) _ (λ r q. refl)
