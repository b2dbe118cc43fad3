-- Events that leave a Join that was taken.
use Rattle.std.{proofs.{Common.{◌≡◌, ◌∙◌, ℕ, ◌<◌, ◌==◌, nat_le, max, ◌&&◌, Bool, true, false, not, cond, List, [], ◌∷◌, ◌++◌, filter, map, Option, Some, None, Ok, refl, sym, ap, subst, arith, eq-eqb}, lemmas.Bool.Decides.nat_tests}}
use Rattle.pim_ip.{specs.Ipv4.Packet}
use Rattle.pim_types.{specs.{declared.{event.Event.Event, fact.{DownstreamRow.DownstreamRow, Key.Key}}, Keys.{iface_in, is_on, same_key, source_key, star_key}}, proofs.Keys.equal_keys}
use Rattle.pim_wire.{specs.Values.{Encapsulated, JoinPrune, Null}}
use Rattle.igmp_wire.{specs.Values.{Query as QueryValue, Record}}
use Rattle.pim_model.{specs.{declared.accepted.Accepted.Accepted, Asserts.{data_seen, wins}, Cause.{done_as, if_done}, Downstream.{Named, holdtime_end, is_named, joined_keys, joined_row, keys_taken, named_key, pruned_keys, row_after, rpt_rows_joined, to_me, touched_keys}, Forwarding.{forwarded, list_chosen, register_at_rp, register_received, stray, watched}, Judging.{Judged, judged}, Messages.Message, Querier.{is_querier, is_skipped, lower_group, lower_queried, lower_sources, querier_elected, querier_up, query_asked, query_group, query_seen, query_sources, querying, record_seen, report_seen, send_sources, sources_sent}, Records.{Asked, with_members, with_record, with_repeats_of_rows}, Registers.with_keepalive, State.State, Step.{advanced, change, concluded, done, iface_down, iface_up, rps_replaced, ran, state_after, step, taken, taken_unless_full}, Tables.{later_end, row_at}}}
use Rattle.law_settled.{proofs.{ListLaws.{by_cond, either}, RowLaws.row_kept, TurnLaws.kept_in_turn, UnchangedLaws.{full_or_taken, taken_done}, Downstream.named_on, SettledStates.settled_is_lawful, Steps.step_is_settled}, specs.Ready.IsSettled}
use Rattle.law_streams.{specs.{Copies.happens, Joins.HoldsTree, Lasts.{EventKeepsSource, EventKeepsStar, NoneTakesBack, RunKeepsSource, RunKeepsStar, takes_back}}, proofs.{Same.{Rows, assert_same, here_same, hello_same, joined_same, register_stop_same, seen_same, settled_same, spt_same}, Climbs.swapped, Lasts.time_keeps, Taken.{becomes_set, named_first, stays_set}}}

pub is_named_on : (j : ℕ) (k : Key) (ns : List Named) → is_named (map (named_key j) ns) k ≡ true → iface_in k ≡ j
unfolding is_named
is_named_on j k [] e = cc e
is_named_on j k (n ∷ ns) e =
    either (same_key k (named_key j n)) (is_named (map (named_key j) ns) k)
    (λ same. ap (λ (q : Key). iface_in q) (equal_keys k (named_key j n) same)
    ∙ named_on j (n.1).address.bits n.0 (n.1).kind) (is_named_on j k ns) e

-- ---- changes that leave the downstream rows

abbrev SameRows : State → State → Type 0
SameRows s t = t.downstream ≡ s.downstream

asked_rows : (i g : ℕ) (s : State) (a : Asked) → SameRows s (query_asked i g s a).0
unfolding query_asked query_group lower_group query_sources lower_sources send_sources sources_sent
asked_rows i g s a = grind arith

record_rows : (i : ℕ) (s : State) (r : Record) → SameRows s (record_seen i s r).0
unfolding record_seen with_record with_members with_repeats_of_rows
record_rows i s r =
    by_cond (λ (p : State × List Message). SameRows s p.0) (is_querier s i) _ _
    (kept_in_turn (query_asked i r.group) (λ t. SameRows s t) (λ t a f. asked_rows i r.group t a ∙ f) _ _ refl) refl

report_rows : (s : State) (i : ℕ) (records : List Record) → SameRows s (report_seen s i records).0
unfolding report_seen
report_rows s i records =
    kept_in_turn (record_seen i) (λ t. SameRows s t) (λ t r f. record_rows i t r ∙ f)
    (filter (λ r. not (is_skipped r)) records) s refl

query_rows : (s : State) (i from : ℕ) (q : QueryValue) → SameRows s (query_seen s i from q)
unfolding query_seen lower_queried querier_elected lower_group lower_sources
query_rows s i from q = grind arith

chosen_rows : (s : State) (g src iif : ℕ) → SameRows s (list_chosen s g src iif).state
unfolding list_chosen stray watched with_keepalive data_seen wins
chosen_rows s g src iif = grind arith

data_rows : (s : State) (g src iif : ℕ) → SameRows s (forwarded s g src iif).state
unfolding forwarded
data_rows s g src iif = grind (arith, chosen_rows, spt_same, joined_same, here_same)

register_rows : (s : State) (p : Packet) (g src : ℕ) (is_null : Bool) → SameRows s (register_received s p g src is_null).state
unfolding register_received register_at_rp with_keepalive
register_rows s p g src is_null = grind arith

-- ---- the row goes on to be held

module _ (key : Key) (tree : key.rpt ≡ false) (end : Option ℕ) where
  abbrev i : ℕ
  i = iface_in key

  abbrev Held : State → Type 0
  Held s = HoldsTree s key end

  held_so : (s t : State) → row_at t.downstream key ≡ row_at s.downstream key → Held s → Held t
  held_so s t same f = record { row = f.row; found = same ∙ f.found; unpruned = f.unpruned; lasts = f.lasts }

  held_by : (s t : State) → SameRows s t → Held s → Held t
  held_by s t same f = held_so s t (ap (λ d. row_at d key) same) f

  -- ---- a Join/Prune on the interface, or another

  later_too : (x e : Option ℕ) → later_end x end ≡ x → later_end (later_end x e) end ≡ later_end x e
  later_too x e f = grind arith

  module _ (s : State) (f : Held s) (j : ℕ) (m : JoinPrune)
      (unpruned : ((j == i) && is_named (pruned_keys j m) key) ≡ false) where
    abbrev joined : List Key
    joined = joined_keys s j m

    abbrev pruned : List Key
    pruned = pruned_keys j m

    abbrev rule : Key → Option DownstreamRow
    rule k = row_after s j m.holdtime joined pruned k

    not_pruned : is_named pruned key ≡ false
    unfolding pruned_keys
    not_pruned = grind (arith, is_named_on, eq-eqb)

    record Stays (o : Option DownstreamRow) : Type 0 where
      row : DownstreamRow
      found : o ≡ Some row
      pending : row.pending ≡ None
      lasts : later_end row.expiry end ≡ row.expiry

    joined_stays : (holdtime : ℕ) (e : Option ℕ) → Stays (joined_row e holdtime (Some f.row))
    joined_stays holdtime e = grind (arith, later_too)

    same_stays : Stays (Some f.row)
    same_stays = record { row = f.row; found = refl; pending = f.unpruned; lasts = f.lasts }

    rule_so : (b : Bool) → is_named joined key ≡ b
        → rule key ≡ cond b (joined_row (holdtime_end s m.holdtime) m.holdtime (Some f.row)) (Some f.row)
    unfolding row_after
    rule_so b e = rw (not_pruned, e, f.found, tree) refl

    becomes : (b : Bool) → is_named joined key ≡ b → row_at (to_me s j m).downstream key ≡ rule key
    unfolding to_me keys_taken touched_keys
    becomes true e =
        becomes_set rule key (touched_keys s j joined pruned) s.downstream
        (named_first (joined ++ pruned) (rpt_rows_joined s j joined) key (named_first joined pruned key e))
    becomes false e =
        stays_set rule key (touched_keys s j joined pruned) s.downstream (f.found ∙ sym (rule_so false e))

    stays : (b : Bool) → is_named joined key ≡ b → Stays (row_at (to_me s j m).downstream key)
    stays true e = subst Stays (sym (becomes true e ∙ rule_so true e)) (joined_stays m.holdtime (holdtime_end s m.holdtime))
    stays false e = subst Stays (sym (becomes false e ∙ rule_so false e)) same_stays

    pub to_me_holds : Held (to_me s j m)
    to_me_holds = grind (arith, stays)

  -- ---- any event but time

  down_holds : (s : State) (j : ℕ) → (j == i) ≡ false → Held s → Held (iface_down s j)
  unfolding iface_down
  down_holds s j off f = held_so s (iface_down s j) (row_kept (is_on j) key (swapped j i off) s.downstream) f

pub change_holds : (s : State) (w : ℕ) (k : Key) → k.rpt ≡ false → (end : ℕ) (a : Accepted) → HoldsTree s k (Some end)
    → takes_back k end (Some a) ≡ false → HoldsTree (change s w a).state k (Some end)
unfolding change iface_up querier_up querying rps_replaced
change_holds s w k tree end (Accepted.Advance moment) f off = f
change_holds s w k tree end (Accepted.Up j) f off = held_by k tree (Some end) s _ refl f
change_holds s w k tree end (Accepted.Down j) f off = down_holds k tree (Some end) s j.number off f
change_holds s w k tree end (Accepted.Routes routes) f off = held_by k tree (Some end) s _ refl f
change_holds s w k tree end (Accepted.Rps ranges) f off = held_by k tree (Some end) s _ refl f
change_holds s w k tree end (Accepted.Hello j from h) f off = grind (arith, held_by, hello_same)
change_holds s w k tree end (Accepted.JoinPruneToMe j m) f off = to_me_holds k tree (Some end) s f j.number m off
change_holds s w k tree end (Accepted.JoinPruneSeen j m) f off = grind (arith, held_by, seen_same)
change_holds s w k tree end (Accepted.Assert j from a) f off = grind (arith, held_by, assert_same)
change_holds s w k tree end (Accepted.Query j from q) f off = grind (arith, held_by, query_rows)
change_holds s w k tree end (Accepted.Report j records) f off = grind (arith, held_by, report_rows)
change_holds s w k tree end (Accepted.Data j p) f off = grind (arith, held_by, data_rows)
change_holds s w k tree end (Accepted.Register p (Encapsulated inner)) f off = grind (arith, held_by, register_rows)
change_holds s w k tree end (Accepted.Register p (Null source group)) f off = grind (arith, held_by, register_rows)
change_holds s w k tree end (Accepted.RegisterStop from r) f off = grind (arith, held_by, register_stop_same)

-- ---- any event

module _ (s : State) (k : Key) (tree : k.rpt ≡ false) (end : ℕ) (rest : IsSettled s) (f : HoldsTree s k (Some end)) where
  beyond : (m : ℕ) → nat_le end m ≡ false → (x : ℕ) → (f.row).expiry ≡ Some x → m < x
  beyond m off x is =
      let later : later_end (Some x) (Some end) ≡ Some x = subst (λ (o : Option ℕ). later_end o (Some end) ≡ o) is f.lasts in
      let same : max x end ≡ x = cc later in
      grind (arith, nat_tests, same, off)

  time_holds : (w m : ℕ) → nat_le end m ≡ false → HoldsTree (advanced s w m).state k (Some end)
  time_holds w m off =
      record {
        row = f.row;
        found = time_keeps k f.row m f.unpruned (beyond m off) w s
            (record { there = f.found; lawful = settled_is_lawful s rest });
        unpruned = f.unpruned;
        lasts = f.lasts;
      }

  taken_holds : (w : ℕ) (a : Accepted) → takes_back k end (Some a) ≡ false → HoldsTree (taken s w a).state k (Some end)
  unfolding taken done
  taken_holds w (Accepted.Advance moment) off = time_holds w moment off
  taken_holds w a off = done_holds w a off
    where
      done_holds : (w : ℕ) (a : Accepted) → takes_back k end (Some a) ≡ false
          → HoldsTree (done s w (change s w a)).state k (Some end)
      done_holds w a off =
          held_by k tree (Some end) (change s w a).state (done s w (change s w a)).state
          (ap (λ (r : Rows). r.downstream) (settled_same s ((change s w a).state, (change s w a).messages) w))
          (change_holds s w k tree end a f off)

  full_holds : (w : ℕ) (a : Accepted) (b : Bool) → takes_back k end (if_done (full_or_taken s w a b).answer (Ok a)) ≡ false
      → HoldsTree (full_or_taken s w a b).state k (Some end)
  full_holds w a b off = grind (arith, taken_holds, taken_done)

  concluded_holds : (w : ℕ) (j : Judged) → takes_back k end (if_done (concluded s (taken_unless_full s w) j).answer j) ≡ false
      → HoldsTree (concluded s (taken_unless_full s w) j).state k (Some end)
  unfolding taken_unless_full
  concluded_holds w j off = grind (arith, full_holds)

event_keeps : (s : State) (e : Event) (k : Key) → k.rpt ≡ false → (end : ℕ) → IsSettled s → HoldsTree s k (Some end)
    → takes_back k end (done_as (happens s e)) ≡ false → HoldsTree (step s e).state k (Some end)
unfolding step done_as
event_keeps s e k tree end rest f off = concluded_holds s k tree end rest f e.draw (judged s e.kind) off

run_keeps : (s : State) (events : List Event) (k : Key) → k.rpt ≡ false → (end : ℕ) → IsSettled s → HoldsTree s k (Some end)
    → NoneTakesBack k end s events → HoldsTree (state_after s events) k (Some end)
unfolding state_after ran
run_keeps s [] k tree end rest f none = f
run_keeps s (e ∷ es) k tree end rest f none =
    run_keeps (step s e).state es k tree end (step_is_settled s e rest) (event_keeps s e k tree end rest f none.0) none.1

pub event_keeps_star : EventKeepsStar
event_keeps_star s e i g end = event_keeps s e (star_key i g) refl end

pub event_keeps_source : EventKeepsSource
event_keeps_source s e i g src end = event_keeps s e (source_key i g src) refl end

pub run_keeps_star : RunKeepsStar
run_keeps_star s events i g end = run_keeps s events (star_key i g) refl end

pub run_keeps_source : RunKeepsSource
run_keeps_source s events i g src end = run_keeps s events (source_key i g src) refl end
