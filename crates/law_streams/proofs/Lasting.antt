-- Which tables what changes a state leaves alone: of IGMP's queries, and those that follow.
use Rattle.std.{proofs.Common.{◌≡◌, ◌∙◌, ℕ, not, Bool, List, filter, refl, arith}}
use Rattle.pim_ip.{specs.Ipv4.Packet}
use Rattle.pim_types.{specs.declared.{fact.{AssertMetric.AssertMetric, AssertRow.AssertRow, DownstreamRow.DownstreamRow, InterfaceRow.InterfaceRow, JoinTimerRow.JoinTimerRow, Key.Key, NeighbourRow.NeighbourRow, OverrideTimerRow.OverrideTimerRow, RegisterRow.RegisterRow}}}
use Rattle.pim_wire.{specs.{Values.JoinPrune, declared.{assert.Assert.Assert as AssertMessage, hello.Hello.Hello as HelloValue}}}
use Rattle.igmp_wire.{specs.Values.{Query as QueryValue, Record}}
use Rattle.pim_model.{specs.{Asserts.{assert_as_loser, assert_as_winner, assert_at, assert_due, assert_forgotten, assert_in_no_info, assert_received, data_seen, loses, loses_first, wins, wins_again, with_spt_bit}, Downstream.{asserts_after_joins, keys_taken, prune_pending_due, to_me}, Firing.settled, Forwarding.{forwarded, list_chosen, register_at_rp, register_received, source_here, source_joined, spt_updated, stray, watched}, Hellos.{hello_received, hello_triggered, neighbour_replaced, neighbour_restarted}, Messages.Message, Querier.{is_querier, is_skipped, lower_group, lower_queried, lower_sources, querier_elected, query_asked, query_group, query_seen, query_sources, record_seen, report_seen, send_sources, sources_sent}, Records.{Asked, with_members, with_record, with_repeats_of_rows}, Registers.with_keepalive, Seen.{cancel_override_timer, lower_join_timer, lower_override_timer, raise_join_timer, seen}, State.{Addressing, State}, Tables.Table}}
use Rattle.law_settled.{proofs.{ListLaws.by_cond, TurnLaws.kept_in_turn, SeenLaws.kept_by_seen, Unsettled.settling_leaves}}
use Rattle.law_streams.{proofs.Repeats.{Asking, asking}}

-- what only interfaces, Hellos, registering and time change
pub record Still : Type 0 where
  pub present : ℕ
  pub configured : Addressing
  pub interfaces : Table InterfaceRow
  pub neighbours : Table NeighbourRow
  pub registers : Table RegisterRow

abbrev pub still : State → Still
still s = record {
  present = s.present;
  configured = s.configured;
  interfaces = s.interfaces;
  neighbours = s.neighbours;
  registers = s.registers;
}

-- with the timers of the upstream machines
pub record Lasting : Type 0 where
  pub still : Still
  pub join_timers : Table JoinTimerRow
  pub override_timers : Table OverrideTimerRow

abbrev pub lasting : State → Lasting
lasting s = record { still = still s; join_timers = s.join_timers; override_timers = s.override_timers }

-- the lasting parts with those of IGMP
pub record Whole : Type 0 where
  pub asking : Asking
  pub lasting : Lasting

abbrev pub whole : State → Whole
whole s = record { asking = asking s; lasting = lasting s }

-- ---- a Join/Prune to the router, an Assert, data, a Register

pub to_me_whole : (s : State) (i : ℕ) (m : JoinPrune) → whole (to_me s i m) ≡ whole s
unfolding to_me keys_taken asserts_after_joins
to_me_whole s i m = refl

assert_at_whole : (s : State) (k : Key) (theirs : AssertMetric) → whole (assert_at s k theirs).0 ≡ whole s
unfolding assert_at assert_in_no_info assert_as_winner assert_as_loser wins wins_again loses loses_first with_spt_bit
    assert_forgotten
assert_at_whole s k theirs = grind arith

pub assert_whole : (s : State) (i from : ℕ) (a : AssertMessage) → whole (assert_received s i from a).0 ≡ whole s
unfolding assert_received
assert_whole s i from a = grind (arith, assert_at_whole)

chosen_whole : (s : State) (g src iif : ℕ) → whole (list_chosen s g src iif).state ≡ whole s
unfolding list_chosen stray watched with_keepalive data_seen wins
chosen_whole s g src iif = grind arith

updated_whole : (s : State) (g src iif : ℕ) → whole (spt_updated s g src iif) ≡ whole s
unfolding spt_updated with_spt_bit
updated_whole s g src iif = grind arith

joined_whole : (s : State) (g src iif : ℕ) → whole (source_joined s g src iif) ≡ whole s
unfolding source_joined with_keepalive
joined_whole s g src iif = grind arith

-- after the source was registered
pub data_whole : (s : State) (g src iif : ℕ) → whole (forwarded s g src iif).state ≡ whole (source_here s g src iif)
unfolding forwarded
data_whole s g src iif = grind (arith, chosen_whole, updated_whole, joined_whole)

pub register_whole : (s : State) (p : Packet) (g src : ℕ) (is_null : Bool) → whole (register_received s p g src is_null).state ≡ whole s
unfolding register_received register_at_rp with_keepalive
register_whole s p g src is_null = grind arith

-- ---- IGMP

pub query_lasting : (s : State) (i from : ℕ) (q : QueryValue) → lasting (query_seen s i from q) ≡ lasting s
unfolding query_seen lower_queried querier_elected lower_group lower_sources
query_lasting s i from q = grind arith

asked_lasting : (i g : ℕ) (s : State) (a : Asked) → lasting (query_asked i g s a).0 ≡ lasting s
unfolding query_asked query_group lower_group query_sources lower_sources send_sources sources_sent
asked_lasting i g s a = grind arith

record_lasting : (i : ℕ) (s : State) (r : Record) → lasting (record_seen i s r).0 ≡ lasting s
unfolding record_seen with_record with_members with_repeats_of_rows
record_lasting i s r =
    by_cond (λ (p : State × List Message). lasting p.0 ≡ lasting s) (is_querier s i) _ _
    (kept_in_turn (query_asked i r.group) (λ t. lasting t ≡ lasting s) (λ t a f. asked_lasting i r.group t a ∙ f) _ _ refl) refl

pub report_lasting : (s : State) (i : ℕ) (records : List Record) → lasting (report_seen s i records).0 ≡ lasting s
unfolding report_seen
report_lasting s i records =
    kept_in_turn (record_seen i) (λ t. lasting t ≡ lasting s) (λ t r f. record_lasting i t r ∙ f)
    (filter (λ r. not (is_skipped r)) records) s refl

-- ---- a Join/Prune between other routers: it moves timers

pub record Beside : Type 0 where
  pub asking : Asking
  pub still : Still

abbrev pub beside : State → Beside
beside s = record { asking = asking s; still = still s }

pub seen_beside : (s : State) (w i : ℕ) (m : JoinPrune) → beside (seen s w i m) ≡ beside s
unfolding raise_join_timer lower_join_timer cancel_override_timer lower_override_timer
seen_beside s w i m =
    kept_by_seen (λ t. beside t ≡ beside s) s w i m (λ t k end f. f) (λ t k f. f) (λ t k f. f) (λ t k f. f) refl

-- ---- a Hello

pub record Unhailed : Type 0 where
  pub asking : Asking
  pub present : ℕ
  pub configured : Addressing
  pub registers : Table RegisterRow
  pub override_timers : Table OverrideTimerRow

abbrev pub unhailed : State → Unhailed
unhailed s = record {
  asking = asking s;
  present = s.present;
  configured = s.configured;
  registers = s.registers;
  override_timers = s.override_timers;
}

pub hello_unhailed : (s : State) (i address : ℕ) (h : HelloValue) (w : ℕ) → unhailed (hello_received s i address h w) ≡ unhailed s
unfolding hello_received hello_triggered neighbour_replaced neighbour_restarted
hello_unhailed s i address h w = grind arith

-- ---- the ends of rows

pub pending_lasting : (s : State) (k : Key) (r : DownstreamRow) → lasting (prune_pending_due s k r).0 ≡ lasting s
unfolding prune_pending_due
pending_lasting s k r = grind arith

pub assert_lasting : (s : State) (k : Key) (r : AssertRow) → lasting (assert_due s k r).0 ≡ lasting s
unfolding assert_due wins_again assert_forgotten
assert_lasting s k r = grind arith

-- ---- what follows from a change

pub settled_asking : (o : State) (change : State × List Message) (w : ℕ) → asking (settled o change w).0 ≡ asking change.0
settled_asking o change w = grind (arith, settling_leaves)
