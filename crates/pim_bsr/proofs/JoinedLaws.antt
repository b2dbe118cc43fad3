-- The router behind the front is that of the specification, fed by what the front gives it.
use Rattle.std.{proofs.{Common.{◌≡◌, ℕ, zero, suc, Bool, true, false, List, [], ◌∷◌, ◌++◌, length, take, Option, Some, None, Result, Ok, Err, refl, sym, ap, ◌∙◌}}, specs.{Prelude.{if◌then◌else◌}}}
use Rattle.pim_ip.{specs.{Ipv4.{Packet, ipv4_reading}, declared.refusal.Refusal.Refusal}}
use Rattle.pim_types.{specs.declared.{config.RpRange.RpRange, event.{Event.Event, EventKind.EventKind}, outcome.{Outcome.Outcome}}}
use Rattle.pim_model.{specs.{State.State, Step.{Answered, outcome_of, ran, run, state_after, step}}}
use Rattle.pim_bsr.{specs.{Hearing.{Around, around_of, heard_frame, heard_packet, heard_reading}, Joined.{FrontedRouter, Told, candidates_told, event, event_given, events_given, frame_given, frame_joined, is_done, is_other_type, is_refused_moment, joined, joined_step, kind_given, kind_joined, loses_by, outcomes_in, passed, ran_with, ranges_given, ranges_joined, rps_told, time_given, time_joined}, Laws.{JoinedIsRun, WithoutMessageNothingChanges, WithoutSettingNothingChanges, brings_bootstrap, is_bootstrap_read}, Table.{Known, at_time, configured, given, room_beside, same_candidates}, declared.{choice.Choice.Choice, learned.Learned.Learned}}, proofs.Ranges.{alone, same_unmoved}}

-- ---- events one after others

pub ran_both : (es fs : List Event) (s : State)
    → ((ran s (es ++ fs)).0 ≡ (ran s es).0 ++ (ran (ran s es).1 fs).0) × ((ran s (es ++ fs)).1 ≡ (ran (ran s es).1 fs).1)
unfolding ran
ran_both [] fs s = (refl, refl)
ran_both (e ∷ es) fs s =
    let later = ran_both es fs (step s e).state in
    (ap (λ (os : List Outcome). outcome_of (step s e) ∷ os) later.0, later.1)

-- the outcomes of one event at the front, and the state after it, are those of the events that the router is given
pub record Runs (told : Told × FrontedRouter) (s : State) (es : List Event) : Type 0 where
  pub outcomes : told.0.outcomes ≡ (ran s es).0
  pub state : told.1.state ≡ (ran s es).1

passed_runs : (known : Option Known) (s : State) (e : Event) → Runs (passed known s e) s (e ∷ [])
passed_runs known s e = record { outcomes = refl; state = refl }

frame_runs : (k : Known) (s : State) (e : Event) (i : ℕ) (bytes : List ℕ) → Runs (frame_joined k s e i bytes) s (frame_given k s e i bytes)
unfolding frame_joined frame_given ran
frame_runs k s e i bytes = go (is_other_type (step s e).answer)
  where
    go : (b : Bool) → Runs
        (if b then ran_with (heard_frame (around_of (step s e).state) k i bytes).sent (Some (heard_frame (around_of (step s e).state) k i bytes).known) (
          outcome_of (step s e) ∷ (ran (step s e).state (rps_told e.draw k (heard_frame (around_of (step s e).state) k i bytes).known)).0,
          (ran (step s e).state (rps_told e.draw k (heard_frame (around_of (step s e).state) k i bytes).known)).1,
        )
        else ran_with [] (Some k) (outcome_of (step s e) ∷ [], (step s e).state)) s
        (e ∷ (if b then rps_told e.draw k (heard_frame (around_of (step s e).state) k i bytes).known else []))
    go true = record { outcomes = refl; state = refl }
    go false = record { outcomes = refl; state = refl }

-- what is known beside other configured ranges, and the event by which the router is given them
abbrev pub beside : Known → List RpRange → Known
beside k static = configured k.limit static k

abbrev pub ranges_event : Known → Event → List RpRange → Event
ranges_event k e static = event e.draw (EventKind.Rps (given (beside k static)))

-- other configured ranges, by whether the router took them
abbrev pub ranges_if : Bool → Known → State → Event → List RpRange → Told × FrontedRouter
ranges_if b k s e static =
    let a : Answered = step s (ranges_event k e static) in
    let r : List Outcome × State = ran a.state (candidates_told e.draw k (beside k static)) in
    if b then ran_with [] (Some (beside k static)) (outcome_of a ∷ r.0, r.1) else ran_with [] (Some k) (outcome_of a ∷ [], a.state)

ranges_run : (k : Known) (s : State) (e : Event) (static : List RpRange)
    → Runs (ranges_joined k s e static) s (ranges_given k s e static)
unfolding ranges_joined ranges_given ran
ranges_run k s e static = go (is_done (step s (ranges_event k e static)).answer)
  where
    go : (b : Bool) → Runs (ranges_if b k s e static) s
        (ranges_event k e static ∷ (if b then candidates_told e.draw k (beside k static) else []))
    go true = record { outcomes = refl; state = refl }
    go false = record { outcomes = refl; state = refl }

time_runs : (k : Known) (s : State) (e : Event) (moment : ℕ) → Runs (time_joined k s e moment) s
    (if is_refused_moment s moment then e ∷ [] else time_given e.draw (length k.table.rps) k moment)
unfolding time_joined
time_runs k s e moment = go (is_refused_moment s moment)
  where
    go : (b : Bool) → Runs
        (if b then passed (Some k) s e
        else ran_with [] (Some (at_time moment k)) (ran s (time_given e.draw (length k.table.rps) k moment))) s
        (if b then e ∷ [] else time_given e.draw (length k.table.rps) k moment)
    go true = record { outcomes = refl; state = refl }
    go false = record { outcomes = refl; state = refl }

kind_runs : (k : Known) (s : State) (e : Event) (kind : EventKind) → Runs (kind_joined k s e kind) s (kind_given k s e kind)
kind_runs k s e (EventKind.Frame i bytes) = frame_runs k s e i.number bytes
kind_runs k s e (EventKind.Rps static) = ranges_run k s e static
kind_runs k s e (EventKind.Advance moment) = time_runs k s e moment
kind_runs k s e (EventKind.Unicast bytes) = passed_runs (Some k) s e
kind_runs k s e (EventKind.Up i) = passed_runs (Some k) s e
kind_runs k s e (EventKind.Down i) = passed_runs (Some k) s e
kind_runs k s e (EventKind.Routes routes) = passed_runs (Some k) s e
kind_runs k s e (EventKind.RpCandidates candidates) = passed_runs (Some k) s e

pub step_runs : (known : Option Known) (s : State) (e : Event)
    → Runs (joined_step (record { known = known; state = s }) e) s (event_given (record { known = known; state = s }) e)
unfolding joined_step event_given
step_runs None s e = passed_runs None s e
step_runs (Some k) s e = kind_runs k s e e.kind

pub joined_is_run : JoinedIsRun
unfolding joined events_given outcomes_in run state_after ran
joined_is_run b [] = (refl, refl)
joined_is_run b (e ∷ es) =
    let one : Runs (joined_step b e) b.state (event_given b e) = step_runs b.known b.state e in
    let next : FrontedRouter = (joined_step b e).1 in
    let later = joined_is_run next es in
    let both = ran_both (event_given b e) (events_given next es) b.state in (
      ap (λ (os : List Outcome). os ++ outcomes_in (joined next es).0) one.outcomes
          ∙ ap (λ (os : List Outcome). (ran b.state (event_given b e)).0 ++ os) later.0
          ∙ ap (λ (t : State). (ran b.state (event_given b e)).0 ++ (ran t (events_given next es)).0) one.state
          ∙ sym both.0,
      later.1 ∙ ap (λ (t : State). (ran t (events_given next es)).1) one.state ∙ sym both.1,
    )

-- ---- without a front

pub without_setting : WithoutSettingNothingChanges
unfolding joined joined_step outcomes_in run ran
without_setting s [] = refl
without_setting s (e ∷ es) = ap (λ (os : List Outcome). outcome_of (step s e) ∷ os) (without_setting (step s e).state es)

-- ---- without a message

none_told : (draw : ℕ) (k : Known) → rps_told draw k k ≡ []
none_told draw k = rw (same_unmoved k.choice k.static k.table.rps) refl

-- a front that knows no RPs, and gives the router the event alone
record Alone (k : Known) (told : Told × FrontedRouter) (s : State) (e : Event) : Type 0 where
  outcomes : told.0.outcomes ≡ outcome_of (step s e) ∷ []
  state : told.1.state ≡ (step s e).state
  left : Known
  known : told.1.known ≡ Some left
  none : left.table.rps ≡ []

passed_alone : (k : Known) (s : State) (e : Event) → k.table.rps ≡ [] → Alone k (passed (Some k) s e) s e
unfolding ran
passed_alone k s e none = record { outcomes = refl; state = refl; left = k; known = refl; none = none }

unheard_frame : (s : Around) (k : Known) (i : ℕ) (bytes : List ℕ) → is_bootstrap_read (ipv4_reading bytes) ≡ false
    → (heard_frame s k i bytes).known ≡ k
unfolding heard_frame heard_packet
unheard_frame s k i bytes e = go (ipv4_reading bytes) e
  where
    go : (r : Result Packet Refusal) → is_bootstrap_read r ≡ false → (heard_reading s k i r).known ≡ k
    go (Ok p) e = rw e refl
    go (Err refusal) e = refl

frame_alone : (k : Known) (s : State) (e : Event) (i : ℕ) (bytes : List ℕ) → k.table.rps ≡ []
    → is_bootstrap_read (ipv4_reading bytes) ≡ false → Alone k (frame_joined k s e i bytes) s e
unfolding frame_joined ran
frame_alone k s e i bytes none other = go (is_other_type (step s e).answer)
  where
    same : (heard_frame (around_of (step s e).state) k i bytes).known ≡ k
    same = unheard_frame (around_of (step s e).state) k i bytes other

    nothing : rps_told e.draw k (heard_frame (around_of (step s e).state) k i bytes).known ≡ []
    nothing = ap (rps_told e.draw k) same ∙ none_told e.draw k

    go : (b : Bool) → Alone k
        (if b then ran_with (heard_frame (around_of (step s e).state) k i bytes).sent (Some (heard_frame (around_of (step s e).state) k i bytes).known) (
          outcome_of (step s e) ∷ (ran (step s e).state (rps_told e.draw k (heard_frame (around_of (step s e).state) k i bytes).known)).0,
          (ran (step s e).state (rps_told e.draw k (heard_frame (around_of (step s e).state) k i bytes).known)).1,
        )
        else ran_with [] (Some k) (outcome_of (step s e) ∷ [], (step s e).state)) s e
    go true = record {
      outcomes = ap (λ (es : List Event). outcome_of (step s e) ∷ (ran (step s e).state es).0) nothing;
      state = ap (λ (es : List Event). (ran (step s e).state es).1) nothing;
      left = k;
      known = ap (λ (x : Known). Some x) same;
      none = none;
    }
    go false = record { outcomes = refl; state = refl; left = k; known = refl; none = none }

taken_none : (n : ℕ) (ls : List Learned) → ls ≡ [] → take n ls ≡ []
taken_none zero ls e = refl
taken_none (suc n) ls e = rw e refl

none_configured : (k : Known) (static : List RpRange) → k.table.rps ≡ [] → (configured k.limit static k).table.rps ≡ []
unfolding configured
none_configured k static none = taken_none (room_beside k.limit static) k.table.rps none

given_is : (k : Known) (static : List RpRange) → k.table.rps ≡ [] → given (configured k.limit static k) ≡ static
unfolding configured
given_is k static none = (alone k.choice static (take (room_beside k.limit static) k.table.rps) (none_configured k static none)).0

-- no candidates are lost
nothing_lost : (choice : Choice) (before after : List Learned) → before ≡ [] → after ≡ [] → loses_by choice before after ≡ false
unfolding same_candidates
nothing_lost Choice.Range before after e f = refl
nothing_lost Choice.Group before after e f = rw (e, f) refl

none_lost : (draw : ℕ) (k : Known) (static : List RpRange) → k.table.rps ≡ [] → candidates_told draw k (configured k.limit static k) ≡ []
none_lost draw k static none =
    rw (nothing_lost (configured k.limit static k).choice k.table.rps (configured k.limit static k).table.rps none (none_configured k static none)) refl

ranges_alone : (k : Known) (s : State) (e : Event) (static : List RpRange) → k.table.rps ≡ [] → e.kind ≡ EventKind.Rps static
    → Alone k (ranges_joined k s e static) s e
unfolding ranges_joined ran
ranges_alone k s e static none is = go (is_done (step s (ranges_event k e static)).answer)
  where
    as_it_came : ranges_event k e static ≡ e
    as_it_came = ap (λ (rs : List RpRange). event e.draw (EventKind.Rps rs)) (given_is k static none) ∙ ap (event e.draw) (sym is)

    nothing : candidates_told e.draw k (beside k static) ≡ []
    nothing = none_lost e.draw k static none

    go : (b : Bool) → Alone k (ranges_if b k s e static) s e
    go true = record {
      outcomes = ap (λ (es : List Event). let a : Answered = step s (ranges_event k e static) in outcome_of a ∷ (ran a.state es).0) nothing
          ∙ ap (λ (x : Event). outcome_of (step s x) ∷ []) as_it_came;
      state = ap (λ (es : List Event). (ran (step s (ranges_event k e static)).state es).1) nothing
          ∙ ap (λ (x : Event). (step s x).state) as_it_came;
      left = beside k static;
      known = refl;
      none = none_configured k static none;
    }
    go false = record {
      outcomes = ap (λ (x : Event). outcome_of (step s x) ∷ []) as_it_came;
      state = ap (λ (x : Event). (step s x).state) as_it_came;
      left = k;
      known = refl;
      none = none;
    }

at_once : (k : Known) (e : Event) (moment n : ℕ) → n ≡ 0 → e.kind ≡ EventKind.Advance moment → time_given e.draw n k moment ≡ e ∷ []
unfolding time_given
at_once k e moment n none is = rw none (ap (λ (kind : EventKind). event e.draw kind ∷ []) (sym is))

gone : (k : Known) (moment : ℕ) → k.table.rps ≡ [] → (at_time moment k).table.rps ≡ []
unfolding at_time
gone k moment none = rw none refl

one_event : (s : State) (e : Event) → (ran s (e ∷ [])).0 ≡ outcome_of (step s e) ∷ []
unfolding ran
one_event s e = refl

one_state : (s : State) (e : Event) → (ran s (e ∷ [])).1 ≡ (step s e).state
unfolding ran
one_state s e = refl

time_alone : (k : Known) (s : State) (e : Event) (moment : ℕ) → k.table.rps ≡ [] → e.kind ≡ EventKind.Advance moment
    → Alone k (time_joined k s e moment) s e
unfolding time_joined
time_alone k s e moment none is = go (is_refused_moment s moment)
  where
    alone : time_given e.draw (length k.table.rps) k moment ≡ e ∷ []
    alone = at_once k e moment (length k.table.rps) (ap length none) is

    go : (b : Bool) → Alone k
        (if b then passed (Some k) s e
        else ran_with [] (Some (at_time moment k)) (ran s (time_given e.draw (length k.table.rps) k moment))) s e
    go true = passed_alone k s e none
    go false = record {
      outcomes = ap (λ (es : List Event). (ran s es).0) alone ∙ one_event s e;
      state = ap (λ (es : List Event). (ran s es).1) alone ∙ one_state s e;
      left = at_time moment k;
      known = refl;
      none = gone k moment none;
    }

kind_alone : (k : Known) (s : State) (e : Event) (kind : EventKind) → e.kind ≡ kind → k.table.rps ≡ []
    → brings_bootstrap kind ≡ false → Alone k (kind_joined k s e kind) s e
kind_alone k s e (EventKind.Frame i bytes) is none other = frame_alone k s e i.number bytes none other
kind_alone k s e (EventKind.Rps static) is none other = ranges_alone k s e static none is
kind_alone k s e (EventKind.Advance moment) is none other = time_alone k s e moment none is
kind_alone k s e (EventKind.Unicast bytes) is none other = passed_alone k s e none
kind_alone k s e (EventKind.Up i) is none other = passed_alone k s e none
kind_alone k s e (EventKind.Down i) is none other = passed_alone k s e none
kind_alone k s e (EventKind.Routes routes) is none other = passed_alone k s e none
kind_alone k s e (EventKind.RpCandidates candidates) is none other = passed_alone k s e none

pub without_message : WithoutMessageNothingChanges
unfolding joined joined_step outcomes_in run ran
without_message s k [] none others = refl
without_message s k (e ∷ es) none others =
    let one : Alone k (kind_joined k s e e.kind) s e = kind_alone k s e e.kind refl none others.0 in
    let later = without_message (step s e).state one.left es one.none others.1 in
    let next : (kind_joined k s e e.kind).1 ≡ (let b : FrontedRouter = record { known = Some one.left; state = (step s e).state } in b) =
    both_is (kind_joined k s e e.kind).1 one.left (step s e).state one.known one.state in
    ap (λ (os : List Outcome). os ++ outcomes_in (joined (kind_joined k s e e.kind).1 es).0) one.outcomes
    ∙ ap (λ (b : FrontedRouter). outcome_of (step s e) ∷ outcomes_in (joined b es).0) next
    ∙ ap (λ (os : List Outcome). outcome_of (step s e) ∷ os) later
  where
    both_is : (b : FrontedRouter) (k : Known) (s : State) → b.known ≡ Some k → b.state ≡ s → b ≡ (let x : FrontedRouter = record { known = Some k; state = s } in x)
    both_is b k s e f =
        ap (λ (known : Option Known). let x : FrontedRouter = record { known = known; state = b.state } in x) e
        ∙ ap (λ (state : State). let x : FrontedRouter = record { known = Some k; state = state } in x) f
