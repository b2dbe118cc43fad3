-- Events that leave a group open.
use Rattle.std.{proofs.Common.{◌≡◌, ℕ, ◌&&◌, ◌||◌, ◌==◌, Bool, true, false, not, cond, Some, Result, Ok, refl, ap, subst, arith}}
use Rattle.pim_ip.{specs.{Ipv4.Packet, declared.refusal.Refusal.Refusal}}
use Rattle.pim_types.{specs.declared.{event.Event.Event, outcome.Verdict.Verdict}}
use Rattle.pim_wire.{specs.Values.{Encapsulated, JoinPrune, Null}}
use Rattle.igmp_wire.{specs.{Values.Query as QueryValue, Codes.code_value}}
use Rattle.pim_model.{specs.{declared.accepted.Accepted.Accepted, Asserts.{assert_received, data_seen, wins}, Hellos.hello_received, Seen.seen, Cause.{done_as, if_done}, Downstream.{keys_taken, to_me}, Forwarding.{forwarded, list_chosen, register_at_rp, register_received, stray, watched}, Judging.{Judged, judged}, Querier.{is_lower_querier, lower_group, lower_queried, lower_sources, querier_elected, querier_up, query_end, query_seen, querying}, Registers.{register_stop_seen, with_keepalive}, State.State, Step.{change, concluded, done, iface_down, iface_up, rps_replaced, step, taken, taken_unless_full}, Tables.{drop_where, is_empty_list}}}
use Rattle.law_settled.{proofs.{ListLaws.{by_cond, each_filter}, RowLaws.row_kept, UnchangedLaws.{full_or_taken, taken_done}, SettledStates.settled_is_lawful}, specs.Ready.IsSettled}
use Rattle.law_streams.{specs.Copies.happens, proofs.{Same.{Rows, assert_same, here_same, hello_same, joined_same, register_stop_same, seen_same, settled_same, spt_same}, Climbs.swapped}}
use Rattle.igmp_older.{specs.Open.IsOpen, proofs.OpenLaws.{Tables, is_here, lower_group_open, lower_sources_open, report_open, same_open, tables}}
use Rattle.law_hosts.{specs.Staying.KeepsOpen, proofs.Firings.time_keeps}

module _ (t i g : ℕ) where
  abbrev Open : State → Type 0
  Open s = IsOpen t i g s

  same_tables : (s u : State) → tables t i g u ≡ tables t i g s → Open s → Open u
  same_tables s u e f = same_open t i g s u e f

  chosen_tables : (s : State) (h src iif : ℕ) → tables t i g (list_chosen s h src iif).state ≡ tables t i g s
  unfolding list_chosen stray watched with_keepalive data_seen wins
  chosen_tables s h src iif = grind arith

  rows_tables : (s u : State) → (let x : Rows = record { downstream = u.downstream; groups = u.group_records; sources = u.source_records } in x)
      ≡ (let x : Rows = record { downstream = s.downstream; groups = s.group_records; sources = s.source_records } in x) → tables t i g u ≡ tables t i g s
  rows_tables s u e = ap (λ (x : Rows). let y : Tables t i g = record { groups = x.groups; sources = x.sources } in y) e

  data_tables : (s : State) (h src iif : ℕ) → tables t i g (forwarded s h src iif).state ≡ tables t i g s
  unfolding forwarded
  data_tables s h src iif = grind (arith, chosen_tables, rows_tables, spt_same, joined_same, here_same)

  register_tables : (s : State) (p : Packet) (h src : ℕ) (is_null : Bool) → tables t i g (register_received s p h src is_null).state ≡ tables t i g s
  unfolding register_received register_at_rp with_keepalive
  register_tables s p h src is_null = grind arith

  to_me_tables : (s : State) (j : ℕ) (m : JoinPrune) → tables t i g (to_me s j m) ≡ tables t i g s
  unfolding to_me keys_taken
  to_me_tables s j m = refl

  elected_tables : (s : State) (j qrv qqi : ℕ) → tables t i g (querier_elected s j qrv qqi) ≡ tables t i g s
  unfolding querier_elected
  elected_tables s j qrv qqi = refl

  down_open : (s : State) (j : ℕ) → (j == i) ≡ false → Open s → Open (iface_down s j)
  unfolding iface_down drop_where
  down_open s j off f = grind (arith, row_kept, swapped, each_filter)

  unsuppressed : (a b : Bool) → (a && (b && true)) ≡ false → (a && b) ≡ true → ⊥
  unsuppressed a b e f = grind arith

  -- a query lowers timers of its group alone, where S is clear
  lowered_open : (s : State) (j : ℕ) (q : QueryValue) → ((j == i) && ((q.group == g) && not q.suppress)) ≡ false → Open s → Open (lower_queried s j q)
  unfolding lower_queried
  lowered_open s j q off f = go q.suppress off
    where
      go : (b : Bool) → ((j == i) && ((q.group == g) && not b)) ≡ false
          → Open (cond (b || (q.group == 0)) s (cond (is_empty_list q.sources) (lower_group s j q.group (query_end s j)) (lower_sources s j q.group q.sources (query_end s j))))
      go true off = f
      go false off =
          let away : is_here t i g j q.group ≡ true → ⊥ = λ e. unsuppressed (j == i) (q.group == g) off e in
          by_cond Open (q.group == 0) s (cond (is_empty_list q.sources) (lower_group s j q.group (query_end s j)) (lower_sources s j q.group q.sources (query_end s j))) f
          (by_cond Open (is_empty_list q.sources) (lower_group s j q.group (query_end s j)) (lower_sources s j q.group q.sources (query_end s j))
          (lower_group_open t i g j q.group (query_end s j) s (λ e. absurd (away e)) f)
          (lower_sources_open t i g j q.group (query_end s j) q.sources s (λ e. absurd (away e)) f))

  query_open : (s : State) (j from : ℕ) (q : QueryValue) → ((j == i) && ((q.group == g) && not q.suppress)) ≡ false → Open s → Open (query_seen s j from q)
  unfolding query_seen
  query_open s j from q off f =
      let elected : State = querier_elected s j q.robustness (code_value q.interval_code) in
      lowered_open (cond (is_lower_querier s j from) elected s) j q off
      (by_cond Open (is_lower_querier s j from) elected s (same_tables s elected (elected_tables s j q.robustness (code_value q.interval_code)) f) f)

  change_open : (s : State) (w : ℕ) (a : Accepted) → Open s → KeepsOpen t i g s (Some a) → Open (change s w a).state
  unfolding change iface_up querier_up querying rps_replaced
  change_open s w (Accepted.Advance moment) f off = f
  change_open s w (Accepted.Up j) f off = same_tables s _ refl f
  change_open s w (Accepted.Down j) f off = down_open s j.number off f
  change_open s w (Accepted.Routes routes) f off = same_tables s _ refl f
  change_open s w (Accepted.Rps ranges) f off = same_tables s _ refl f
  change_open s w (Accepted.Hello j from h) f off = let u : State = hello_received s j.number from.bits h w in same_tables s u (rows_tables s u (hello_same s j.number from.bits h w)) f
  change_open s w (Accepted.JoinPruneToMe j m) f off = same_tables s _ (to_me_tables s j.number m) f
  change_open s w (Accepted.JoinPruneSeen j m) f off = let u : State = seen s w j.number m in same_tables s u (rows_tables s u (seen_same s w j.number m)) f
  change_open s w (Accepted.Assert j from a) f off = let u : State = (assert_received s j.number from.bits a).0 in same_tables s u (rows_tables s u (assert_same s j.number from.bits a)) f
  change_open s w (Accepted.Query j from q) f off = query_open s j.number from.bits q off f
  change_open s w (Accepted.Report j records) f off = report_open t i g j.number s records off f
  change_open s w (Accepted.Data j p) f off = same_tables s _ (data_tables s p.destination p.source j.number) f
  change_open s w (Accepted.Register p (Encapsulated inner)) f off = same_tables s _ (register_tables s p inner.destination inner.source false) f
  change_open s w (Accepted.Register p (Null source group)) f off = same_tables s _ (register_tables s p group source true) f
  change_open s w (Accepted.RegisterStop from r) f off = let u : State = register_stop_seen s w r.group.bits r.source.bits in same_tables s u (rows_tables s u (register_stop_same s w r.group.bits r.source.bits)) f

-- ---- any event

module _ (t i g : ℕ) (s : State) (rest : IsSettled s) (f : IsOpen t i g s) where
  taken_open : (w : ℕ) (a : Accepted) → KeepsOpen t i g s (Some a) → IsOpen t i g (taken s w a).state
  unfolding taken done
  taken_open w (Accepted.Advance moment) off =
      time_keeps t i g moment off w s (record { open_there = f; lawful = settled_is_lawful s rest })
  taken_open w a off = done_open w a off
    where
      done_open : (w : ℕ) (a : Accepted) → KeepsOpen t i g s (Some a) → IsOpen t i g (done s w (change s w a)).state
      done_open w a off =
          same_open t i g (change s w a).state (done s w (change s w a)).state
          (rows_tables t i g (change s w a).state (done s w (change s w a)).state (settled_same s ((change s w a).state, (change s w a).messages) w))
          (change_open t i g s w a f off)

  full_open : (w : ℕ) (a : Accepted) (b : Bool) → KeepsOpen t i g s (if_done (full_or_taken s w a b).answer (Ok a))
      → IsOpen t i g (full_or_taken s w a b).state
  full_open w a true off = f
  full_open w a false off =
      taken_open w a (subst (λ (x : Result Verdict Refusal). KeepsOpen t i g s (if_done x (Ok a))) (taken_done s w a) off)

  concluded_open : (w : ℕ) (j : Judged) → KeepsOpen t i g s (if_done (concluded s (taken_unless_full s w) j).answer j)
      → IsOpen t i g (concluded s (taken_unless_full s w) j).state
  unfolding taken_unless_full
  concluded_open w j off = grind (arith, full_open)

pub event_keeps_open : (t i g : ℕ) (s : State) (e : Event) → IsSettled s → IsOpen t i g s → KeepsOpen t i g s (done_as (happens s e))
    → IsOpen t i g (step s e).state
unfolding step done_as
event_keeps_open t i g s e rest f off = concluded_open t i g s rest f e.draw (judged s e.kind) off
