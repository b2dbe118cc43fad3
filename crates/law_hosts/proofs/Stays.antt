-- Events that leave a group timer as it is.
use Rattle.std.{proofs.Common.{◌≡◌, ◌∙◌, ℕ, ◌&&◌, ◌==◌, Bool, true, false, not, Some, Ok, refl, sym, ap, arith}}
use Rattle.pim_ip.{specs.Ipv4.Packet}
use Rattle.pim_types.{specs.{Keys.{is_on, star_key}, declared.{event.Event.Event, fact.GroupRecordRow.GroupRecordRow}}}
use Rattle.pim_wire.{specs.Values.{Encapsulated, JoinPrune, Null}}
use Rattle.igmp_wire.{specs.Values.Query as QueryValue}
use Rattle.pim_model.{specs.{declared.accepted.Accepted.Accepted, Asserts.{assert_received, data_seen, wins}, Cause.{done_as, if_done}, Downstream.{keys_taken, to_me}, Forwarding.{forwarded, list_chosen, register_at_rp, register_received, stray, watched}, Hellos.hello_received, Judging.{Judged, judged}, Querier.{group_end, lower_queried, querier_elected, querier_up, query_seen, querying}, Registers.{register_stop_seen, with_keepalive}, Seen.seen, State.State, Step.{change, concluded, done, iface_down, iface_up, rps_replaced, step, taken, taken_unless_full}, Tables.{Table, row_at}}}
use Rattle.law_settled.{proofs.{ListLaws.by_cond, RowLaws.row_kept, UnchangedLaws.{full_or_taken, taken_done}, SettledStates.settled_is_lawful}, specs.Ready.IsSettled}
use Rattle.law_streams.{specs.Copies.happens, proofs.{Same.{Rows, assert_same, here_same, hello_same, joined_same, register_stop_same, seen_same, settled_same, spt_same}, Climbs.swapped}}
use Rattle.igmp_older.{specs.Open.runs_until}
use Rattle.law_hosts.{specs.Staying.KeepsTimer, proofs.Timers.{here, lower_row, lower_sources_row, report_row, row, same_row, time_keeps}}

module _ (i g : ℕ) where
  abbrev Groups : State → Table GroupRecordRow
  Groups s = s.group_records

  chosen_groups : (s : State) (h src iif : ℕ) → Groups (list_chosen s h src iif).state ≡ Groups s
  unfolding list_chosen stray watched with_keepalive data_seen wins
  chosen_groups s h src iif = grind arith

  of_rows : (s u : State) → (let x : Rows = record { downstream = u.downstream; groups = u.group_records; sources = u.source_records } in x)
      ≡ (let x : Rows = record { downstream = s.downstream; groups = s.group_records; sources = s.source_records } in x) → Groups u ≡ Groups s
  of_rows s u e = ap (λ (x : Rows). x.groups) e

  data_groups : (s : State) (h src iif : ℕ) → Groups (forwarded s h src iif).state ≡ Groups s
  unfolding forwarded
  data_groups s h src iif = grind (arith, chosen_groups, of_rows, spt_same, joined_same, here_same)

  register_groups : (s : State) (p : Packet) (h src : ℕ) (is_null : Bool) → Groups (register_received s p h src is_null).state ≡ Groups s
  unfolding register_received register_at_rp with_keepalive
  register_groups s p h src is_null = grind arith

  to_me_groups : (s : State) (j : ℕ) (m : JoinPrune) → Groups (to_me s j m) ≡ Groups s
  unfolding to_me keys_taken
  to_me_groups s j m = refl

  elected_groups : (s : State) (j qrv qqi : ℕ) → Groups (querier_elected s j qrv qqi) ≡ Groups s
  unfolding querier_elected
  elected_groups s j qrv qqi = refl

  down_row : (s : State) (j : ℕ) → (j == i) ≡ false → row i g (iface_down s j) ≡ row i g s
  unfolding iface_down
  down_row s j off = row_kept (is_on j) (star_key i g) (swapped j i off) s.group_records

  here_false : (a b c : Bool) → (a && (b && not c)) ≡ false → c ≡ false → (a && b) ≡ false
  here_false a b c e f = grind arith

  -- a query lowers timers of its group alone, where S is clear
  lowered_row : (s : State) (j : ℕ) (q : QueryValue) → ((j == i) && ((q.group == g) && not q.suppress)) ≡ false → row i g (lower_queried s j q) ≡ row i g s
  unfolding lower_queried
  lowered_row s j q off = grind (arith, row, here, here_false, by_cond, lower_row, lower_sources_row)

  query_row : (s : State) (j from : ℕ) (q : QueryValue) → ((j == i) && ((q.group == g) && not q.suppress)) ≡ false → row i g (query_seen s j from q) ≡ row i g s
  unfolding query_seen
  query_row s j from q off = grind (arith, row, by_cond, same_row, elected_groups, lowered_row)

  by_table : (a b : Table GroupRecordRow) → a ≡ b → row_at a (star_key i g) ≡ row_at b (star_key i g)
  by_table a b e = ap (λ (rows : Table GroupRecordRow). row_at rows (star_key i g)) e

  module _ (t : ℕ) where
    change_row : (s : State) (w : ℕ) (a : Accepted) → KeepsTimer t i g (Some a) → row i g (change s w a).state ≡ row i g s
    unfolding change iface_up querier_up querying rps_replaced
    change_row s w (Accepted.Advance moment) off = refl
    change_row s w (Accepted.Up j) off = refl
    change_row s w (Accepted.Down j) off = down_row s j.number off
    change_row s w (Accepted.Routes routes) off = refl
    change_row s w (Accepted.Rps ranges) off = refl
    change_row s w (Accepted.Hello j from h) off = let u : State = hello_received s j.number from.bits h w in same_row i g s u (of_rows s u (hello_same s j.number from.bits h w))
    change_row s w (Accepted.JoinPruneToMe j m) off = by_table _ _ (to_me_groups s j.number m)
    change_row s w (Accepted.JoinPruneSeen j m) off = let u : State = seen s w j.number m in same_row i g s u (of_rows s u (seen_same s w j.number m))
    change_row s w (Accepted.Assert j from a) off = let u : State = (assert_received s j.number from.bits a).0 in same_row i g s u (of_rows s u (assert_same s j.number from.bits a))
    change_row s w (Accepted.Query j from q) off = query_row s j.number from.bits q off
    change_row s w (Accepted.Report j records) off = report_row i g j.number s records off
    change_row s w (Accepted.Data j p) off = by_table _ _ (data_groups s p.destination p.source j.number)
    change_row s w (Accepted.Register p (Encapsulated inner)) off = by_table _ _ (register_groups s p inner.destination inner.source false)
    change_row s w (Accepted.Register p (Null source group)) off = by_table _ _ (register_groups s p group source true)
    change_row s w (Accepted.RegisterStop from r) off = let u : State = register_stop_seen s w r.group.bits r.source.bits in same_row i g s u (of_rows s u (register_stop_same s w r.group.bits r.source.bits))

-- ---- any event

module _ (t i g : ℕ) (s : State) (rest : IsSettled s) (r : GroupRecordRow) (there : row i g s ≡ Some r) (runs : runs_until t r.end ≡ true) where
  taken_row : (w : ℕ) (a : Accepted) → KeepsTimer t i g (Some a) → row i g (taken s w a).state ≡ row i g s
  unfolding taken done
  taken_row w (Accepted.Advance moment) off =
      time_keeps t i g moment off r runs w s (record { there = there; lawful = settled_is_lawful s rest }) ∙ sym there
  taken_row w a off = done_row w a off
    where
      done_row : (w : ℕ) (a : Accepted) → KeepsTimer t i g (Some a) → row i g (done s w (change s w a)).state ≡ row i g s
      done_row w a off =
          same_row i g (change s w a).state (done s w (change s w a)).state
          (of_rows i g (change s w a).state (done s w (change s w a)).state (settled_same s ((change s w a).state, (change s w a).messages) w))
          ∙ change_row i g t s w a off

  full_row : (w : ℕ) (a : Accepted) (b : Bool) → KeepsTimer t i g (if_done (full_or_taken s w a b).answer (Ok a))
      → row i g (full_or_taken s w a b).state ≡ row i g s
  full_row w a b off = grind (arith, taken_row, taken_done)

  concluded_row : (w : ℕ) (j : Judged) → KeepsTimer t i g (if_done (concluded s (taken_unless_full s w) j).answer j)
      → row i g (concluded s (taken_unless_full s w) j).state ≡ row i g s
  unfolding taken_unless_full
  concluded_row w j off = grind (arith, full_row)

pub event_leaves_row : (t i g : ℕ) (s : State) (e : Event) (r : GroupRecordRow) → IsSettled s → row i g s ≡ Some r → runs_until t r.end ≡ true
    → KeepsTimer t i g (done_as (happens s e)) → row i g (step s e).state ≡ row i g s
unfolding step done_as
event_leaves_row t i g s e r rest there runs off = concluded_row t i g s rest r there runs e.draw (judged s e.kind) off

pub event_keeps_timer : (t i g : ℕ) (s : State) (e : Event) → IsSettled s → runs_until t (group_end s i g) ≡ true
    → KeepsTimer t i g (done_as (happens s e)) → group_end (step s e).state i g ≡ group_end s i g
event_keeps_timer t i g s e rest runs off = grind (arith, row, event_leaves_row)
