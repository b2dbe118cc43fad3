-- A group of an older host goes on to be held.
use Rattle.std.{proofs.{Common.{◌≡◌, ℕ, ◌<◌, ◌==◌, nat_le, true, false, List, [], ◌∷◌, Some, Result, sym, subst, arith, eqb-true}, lemmas.Bool.Decides.nat_tests}, specs.{Cmp.first_so, List.AllByRecursion}}
use Rattle.pim_ip.{specs.declared.refusal.Refusal.Refusal}
use Rattle.pim_types.{specs.{declared.{config.IfaceId.IfaceId, event.Event.Event, outcome.Verdict.Verdict, fact.GroupRecordRow.GroupRecordRow}, Keys.star_key}}
use Rattle.igmp_wire.{specs.{Values.Record, declared.report.RecordType.RecordType}}
use Rattle.pim_model.{specs.{declared.accepted.Accepted.Accepted, Cause.{done_as, if_done}, Judging.{Judged, judged}, Querier.query_end, Receivers.{local_receiver_exclude, local_receiver_star}, State.State, Step.step, Tables.{Table, has_row}}}
use Rattle.law_settled.{proofs.{ListLaws.each_both, Steps.step_is_settled}, specs.Ready.IsSettled}
use Rattle.igmp_older.{specs.{Joined.{FrontedRouter, event_given, joined, joined_step, kind_given, present_end, rows_of}, Open.{IsMild, IsMildAbout, IsMildOnInterface, IsOpen}, Presence.timers_at, declared.mode.PresentRow.PresentRow}, proofs.{LiveLaws.live_there, OpenLaws.open_is_served}}
use Rattle.law_hosts.{specs.{Held.{AllMayHold, IsHeld, MayHold, TakenHolds, knows_until}, Staying.KeepsOpen}, proofs.{Events.event_keeps_open, Judged.{Barred, IsBarred, all_barred}, Known.{older_mode, stays_known}}}

pub still_settled : (b : FrontedRouter) (e : Event) → IsSettled b.state → IsSettled (joined_step b e).1.state
unfolding joined_step
still_settled b e rest = step_is_settled b.state (event_given b e) rest

module _ (t i g : ℕ) where
  stronger : (q : ℕ) (type : RecordType) (sources : List ℕ) → IsMild 0 0 type sources → (type ≡ RecordType.ToInclude → nat_le t q ≡ true) → IsMild t q type sources
  stronger q type sources f h = grind arith

  module _ (s : State) (whole : nat_le t (present_end s i) ≡ true) where
    abbrev Answered : Record → Type 0
    Answered r = r.group ≡ g → r.type ≡ RecordType.ToInclude → nat_le t (query_end s i) ≡ true

    elsewhere : (j : IfaceId) → (j.number == i) ≡ false → (records : List Record)
        → AllByRecursion (IsMildOnInterface t i g (query_end s j.number) (present_end s j.number) j.number) records
    elsewhere j e [] = tt
    elsewhere j e (r ∷ rs) = (λ here. let no : (j.number == i) ≡ true = first_so (j.number == i) (r.group == g) here in absurd cc, elsewhere j e rs)

    report_leaves : (j : IfaceId) (records : List Record) → ((j.number == i) ≡ true → AllByRecursion (IsMildAbout 0 0 g) records)
        → ((j.number == i) ≡ true → AllByRecursion Answered records)
        → AllByRecursion (IsMildOnInterface t i g (query_end s j.number) (present_end s j.number) j.number) records
    report_leaves j records barred answered = grind (arith, eqb-true, each_both, stronger, elsewhere)

    accepted_leaves : (a : Accepted) → Barred t i g a → TakenHolds t i g s (Some a) → KeepsOpen t i g s (Some a)
    accepted_leaves a f h = grind (arith, report_leaves)

    done_leaves : (answer : Result Verdict Refusal) (j : Judged) → IsBarred t i g j → TakenHolds t i g s (if_done answer j) → KeepsOpen t i g s (if_done answer j)
    done_leaves answer j f h = grind (arith, accepted_leaves)

  -- an open group has a record
  record_there : (s : State) → IsOpen t i g s → has_row s.group_records (star_key i g) ≡ true
  unfolding has_row
  record_there s f = grind arith

  pub event_keeps_held : (b : FrontedRouter) (e : Event) → IsSettled b.state → IsHeld t i g b → MayHold t i g b e → IsHeld t i g (joined_step b e).1
  unfolding joined_step event_given done_as
  event_keeps_held b e rest held may =
      let given : Event = event_given b e in
      let groups : Table GroupRecordRow = b.state.group_records in
      let counts : knows_until t (timers_at (rows_of b) i g) ≡ true =
      subst (λ (row : PresentRow). knows_until t row ≡ true)
      (sym (live_there groups b.present.rows i g (record_there b.state held.open_there))) held.known in
      let barred : IsBarred t i g (judged b.state (kind_given b e.kind)) =
      all_barred t i g b e.kind (older_mode t i g (rows_of b) b.state.present may.before counts) may.kind in
      let some : 0 < t = grind (arith, nat_tests, may.before) in
      let after : State = (step b.state given).state in
      let stays : IsOpen t i g after =
      event_keeps_open t i g b.state given rest held.open_there
      (done_leaves b.state may.whole (step b.state given).answer (judged b.state (kind_given b e.kind)) barred may.taken) in
      record {
        open_there = stays;
        known = stays_known t i g b after e.kind (step b.state given).answer may.whole some may.kind (record_there after stays) held.known;
      }

  pub run_keeps_held : (b : FrontedRouter) (es : List Event) → IsSettled b.state → IsHeld t i g b → AllMayHold t i g b es → IsHeld t i g (joined b es).1
  unfolding joined
  run_keeps_held b [] rest held may = held
  run_keeps_held b (e ∷ es) rest held may =
      run_keeps_held (joined_step b e).1 es (still_settled b e rest) (event_keeps_held b e rest held may.0) may.1

  pub held_is_served : (b : FrontedRouter) → IsHeld t i g b
      → (local_receiver_star b.state g i ≡ true) × ((src : ℕ) → local_receiver_exclude b.state g src i ≡ false)
  held_is_served b held = open_is_served t i g b.state held.open_there
