-- The specification's router behind the front: what the router is given for each event, and what is then known.
use Rattle.std.{specs.{Prelude.{ℕ, zero, suc, Bool, true, false, ◌||◌, min, nat_le, nat_lt, not, if◌then◌else◌, List, [], ◌∷◌, ◌++◌, fold, length, Option, Some, None, unwrap_or, Result, Ok}}}
use Rattle.pim_ip.{specs.declared.refusal.Refusal.Refusal}
use Rattle.pim_types.{specs.declared.{config.RpRange.RpRange, event.{Event.Event, EventKind.EventKind}, outcome.{Emission.Emission, Ignored.Ignored, Outcome.Outcome, Verdict.Verdict}}}
use Rattle.pim_model.{specs.{Judging.last_moment, State.State, Step.{Answered, outcome_of, ran, step}}}
use Rattle.pim_bsr.{specs.{Hearing.{Hearing, around_of, heard_frame}, Table.{Known, at_time, candidates, configured, given, moves, same_candidates}, declared.{choice.Choice.Choice, learned.Learned.Learned}}}

-- what is known, if the front is on, and the machine's state
pub record FrontedRouter : Type 0 where
  pub known : Option Known
  pub state : State

-- what the front sent on, and the outcomes of the router behind it
pub record Told : Type 0 where
  pub sent : List Emission
  pub outcomes : List Outcome

-- ---- time

-- of two timestamps, if there are any, the earlier
abbrev pub earlier : ℕ → Option ℕ → ℕ
earlier end None = end
earlier end (Some other) = min end other

-- when the first of the RPs in force expires
unfoldable pub first_end : List Learned → Option ℕ
first_end ls = fold (λ (first : Option ℕ) (l : Learned). Some (earlier l.end first)) None ls

-- an event with the draw of a call
abbrev pub event : ℕ → EventKind → Event
event draw kind = record { draw = draw; kind = kind }

-- what brings the router the RPs that are given
abbrev pub rps_by : Choice → Known → EventKind
rps_by Choice.Range k = EventKind.Rps (given k)
rps_by Choice.Group k = EventKind.RpCandidates (candidates k)

abbrev pub rps_event : Known → EventKind
rps_event k = rps_by k.choice k

-- the router is given them, where it is to be given others than before
abbrev pub rps_if : Bool → ℕ → Known → List Event
rps_if true draw k = event draw (rps_event k) ∷ []
rps_if false draw k = []

-- what the router is given of what is known, after what it was given of what was
abbrev pub rps_told : ℕ → Known → Known → List Event
rps_told draw before after = rps_if (moves before after) draw after

-- other candidates are left, of those that are given
abbrev pub loses_by : Choice → List Learned → List Learned → Bool
loses_by Choice.Range before after = false
loses_by Choice.Group before after = not (same_candidates before after)

-- other configured ranges leave no room for all candidates that the router was given
abbrev pub loses : Known → Known → Bool
loses before after = loses_by after.choice before.table.rps after.table.rps

-- what the router is given once it has other configured ranges, with those that are learned beside them
abbrev pub candidates_told : ℕ → Known → Known → List Event
candidates_told draw before after = rps_if (loses before after) draw after

-- an end that is there, and no later than a moment
abbrev pub is_due : Option ℕ → ℕ → Bool
is_due None moment = false
is_due (Some end) moment = nat_le end moment

-- What the router is given as time passes to a moment: at each end of an RP in force, in their order, the time, and then
-- other RPs where they are others; there are at most so many ends.
unfoldable pub time_given : ℕ → ℕ → Known → ℕ → List Event
time_given draw zero k moment = event draw (EventKind.Advance moment) ∷ []
time_given draw (suc ends) k moment =
    let end : ℕ = unwrap_or (first_end k.table.rps) 0 in
    let after : Known = at_time end k in
    let later : List Event = time_given draw ends after moment in
    if is_due (first_end k.table.rps) moment
    then event draw (EventKind.Advance end) ∷ (rps_told draw k after ++ later)
    else event draw (EventKind.Advance moment) ∷ []

-- a moment that the router refuses
abbrev pub is_refused_moment : State → ℕ → Bool
is_refused_moment s moment = nat_lt moment s.present || nat_lt last_moment moment

-- ---- an event at the front and the router behind it

-- the router ignored a packet for its type: it may be a Bootstrap
abbrev pub is_other_type : Result Verdict Refusal → Bool
is_other_type (Ok (Verdict.Ignored Ignored.OtherType)) = true
is_other_type _ = false

abbrev pub is_done : Result Verdict Refusal → Bool
is_done (Ok Verdict.Done) = true
is_done _ = false

-- what the router told of events, and its state
abbrev pub ran_with : List Emission → Option Known → List Outcome × State → Told × FrontedRouter
ran_with sent known r = (record { sent = sent; outcomes = r.0 }, record { known = known; state = r.1 })

-- an event that goes to the router as it came
abbrev pub passed : Option Known → State → Event → Told × FrontedRouter
passed known s e = ran_with [] known (ran s (e ∷ []))

-- A packet that came on a link goes to the router as it came. Where that ignores it for its type the front hears it, and
-- then the router is given other RPs where they are others.
unfoldable pub frame_joined : Known → State → Event → ℕ → List ℕ → Told × FrontedRouter
frame_joined k s e i bytes =
    let a : Answered = step s e in
    let h : Hearing = heard_frame (around_of a.state) k i bytes in
    let r : List Outcome × State = ran a.state (rps_told e.draw k h.known) in
    if is_other_type a.answer then ran_with h.sent (Some h.known) (outcome_of a ∷ r.0, r.1)
    else ran_with [] (Some k) (outcome_of a ∷ [], a.state)

-- Other configured ranges go to the router with those that are learned beside them, and then other candidates where there
-- are others. What it refuses isn't known.
unfoldable pub ranges_joined : Known → State → Event → List RpRange → Told × FrontedRouter
ranges_joined k s e static =
    let after : Known = configured k.limit static k in
    let a : Answered = step s (event e.draw (EventKind.Rps (given after))) in
    let r : List Outcome × State = ran a.state (candidates_told e.draw k after) in
    if is_done a.answer then ran_with [] (Some after) (outcome_of a ∷ r.0, r.1)
    else ran_with [] (Some k) (outcome_of a ∷ [], a.state)

-- Time passes in steps; a moment that the router refuses goes to it as it came.
unfoldable pub time_joined : Known → State → Event → ℕ → Told × FrontedRouter
time_joined k s e moment =
    if is_refused_moment s moment then passed (Some k) s e
    else ran_with [] (Some (at_time moment k)) (ran s (time_given e.draw (length k.table.rps) k moment))

-- an event's kind at a front that is on
abbrev pub kind_joined : Known → State → Event → EventKind → Told × FrontedRouter
kind_joined k s e (EventKind.Frame i bytes) = frame_joined k s e i.number bytes
kind_joined k s e (EventKind.Rps static) = ranges_joined k s e static
kind_joined k s e (EventKind.Advance moment) = time_joined k s e moment
kind_joined k s e (EventKind.Unicast bytes) = passed (Some k) s e
kind_joined k s e (EventKind.Up i) = passed (Some k) s e
kind_joined k s e (EventKind.Down i) = passed (Some k) s e
kind_joined k s e (EventKind.Routes routes) = passed (Some k) s e
kind_joined k s e (EventKind.RpCandidates candidates) = passed (Some k) s e

-- a front that is on, or none
abbrev pub joined_with : Option Known → State → Event → Told × FrontedRouter
joined_with None s e = passed None s e
joined_with (Some k) s e = kind_joined k s e e.kind

-- one event at the front and the router behind it
unfoldable pub joined_step : FrontedRouter → Event → Told × FrontedRouter
joined_step b e = joined_with b.known b.state e

-- Events one after the other: what was told of each, and what is left at the end.
unfoldable pub joined : FrontedRouter → List Event → List Told × FrontedRouter
joined b [] = ([], b)
joined b (e ∷ es) =
    let first : Told × FrontedRouter = joined_step b e in
    let later : List Told × FrontedRouter = joined first.1 es in
    (first.0 ∷ later.0, later.1)

-- ---- what the router is given

-- for a packet: the packet, and the RPs after a Bootstrap
unfoldable pub frame_given : Known → State → Event → ℕ → List ℕ → List Event
frame_given k s e i bytes =
    e ∷ (if is_other_type (step s e).answer then rps_told e.draw k (heard_frame (around_of (step s e).state) k i bytes).known else [])

-- for other configured ranges: the ranges, and the candidates for which there is room beside them
unfoldable pub ranges_given : Known → State → Event → List RpRange → List Event
ranges_given k s e static =
    let after : Known = configured k.limit static k in
    let ranges : Event = event e.draw (EventKind.Rps (given after)) in
    ranges ∷ (if is_done (step s ranges).answer then candidates_told e.draw k after else [])

-- for an event at a front that is on
abbrev pub kind_given : Known → State → Event → EventKind → List Event
kind_given k s e (EventKind.Frame i bytes) = frame_given k s e i.number bytes
kind_given k s e (EventKind.Rps static) = ranges_given k s e static
kind_given k s e (EventKind.Advance moment) =
    if is_refused_moment s moment then e ∷ [] else time_given e.draw (length k.table.rps) k moment
kind_given k s e (EventKind.Unicast bytes) = e ∷ []
kind_given k s e (EventKind.Up i) = e ∷ []
kind_given k s e (EventKind.Down i) = e ∷ []
kind_given k s e (EventKind.Routes routes) = e ∷ []
kind_given k s e (EventKind.RpCandidates candidates) = e ∷ []

-- for an event
abbrev pub given_with : Option Known → State → Event → List Event
given_with None s e = e ∷ []
given_with (Some k) s e = kind_given k s e e.kind

unfoldable pub event_given : FrontedRouter → Event → List Event
event_given b e = given_with b.known b.state e

-- for events one after the other
unfoldable pub events_given : FrontedRouter → List Event → List Event
events_given b [] = []
events_given b (e ∷ es) = event_given b e ++ events_given (joined_step b e).1 es

-- the outcomes of the router behind the front
unfoldable pub outcomes_in : List Told → List Outcome
outcomes_in [] = []
outcomes_in (t ∷ ts) = t.outcomes ++ outcomes_in ts
