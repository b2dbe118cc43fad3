-- What holds of a session's machine: a router with what stands before it.
use Rattle.std.{specs.{List.{All}, Prelude.{◌≡◌, List, [], ◌∷◌, Err, Option, None, Some, false, map, true}}}
use Rattle.pim_ip.{specs.declared.refusal.Refusal.Refusal}
use Rattle.pim_types.{specs.declared.{event.Event.Event, outcome.Outcome.Outcome}}
use Rattle.pim_model.{specs.{State.State, Step.{Answered, outcome_of, run, state_after, step}}}
use Rattle.law_streams.{specs.Copies.copies_at}
use Rattle.pim_guard.{specs.{Guard.{guarded, is_kind_stopped}, Laws.IsOfData}}
use Rattle.igmp_older.{specs.Joined.{joined}}
use Rattle.pim_anycast.{specs.{Joined.{event_given, joined as shared_joined, outcome_with}, declared.set.RpSet.RpSet}}
use Rattle.pim_session.{specs.{Front.{Front, both, emissions_leaving, event_queried, front_after, given}, Shared.{front_behind, given_behind, left_behind}}}

-- what stands before the router, and the router's state
pub record Served : Type 0 where
  pub sets : List RpSet
  pub front : Option Front
  pub state : State

-- an outcome of the router by the state that it leaves, with what leaves in place of what the router sent
abbrev pub outcome_behind : Served → Event → Answered → Outcome
outcome_behind x e a = record {
  answer = a.answer;
  emissions = left_behind x.sets x.front x.state a.state e.kind a.emissions;
  copies = a.copies;
}

-- one event at a session, by what stands before its router and the router
unfoldable pub session_step : Served → Event → Outcome × Served
session_step x e =
    let a : Answered = step x.state (given_behind x.sets x.front x.state e) in
    (outcome_behind x e a, record x { front = front_behind x.sets x.front x.state e; state = a.state })

-- events one after the other: the outcomes, and what is left
unfoldable pub session_run : Served → List Event → List Outcome × Served
session_run x [] = ([], x)
session_run x (e ∷ es) =
    let first : Outcome × Served = session_step x e in
    let later : List Outcome × Served = session_run first.1 es in
    (first.0 ∷ later.0, later.1)

-- ---- without sets

-- what is known of older hosts, and the router's state
pub record Fronted : Type 0 where
  pub front : Option Front
  pub state : State

abbrev pub outcome_left : Option Front → Outcome → Outcome
outcome_left front o = record o { emissions = emissions_leaving front o.emissions }

-- one event at a router behind what is known of older hosts alone
unfoldable pub front_step : Fronted → Event → Outcome × Fronted
front_step x e =
    let a : Answered = step x.state (given x.front x.state e) in
    (outcome_left x.front (outcome_of a), record { front = front_after x.front x.state e; state = a.state })

-- events one after the other
unfoldable pub front_run : Fronted → List Event → List Outcome × Fronted
front_run x [] = ([], x)
front_run x (e ∷ es) =
    let first : Outcome × Fronted = front_step x e in
    let later : List Outcome × Fronted = front_run first.1 es in
    (first.0 ∷ later.0, later.1)

-- the same as a session's, with sets
abbrev pub served : List RpSet → Fronted → Served
served sets x = record { sets = sets; front = x.front; state = x.state }

abbrev pub run_served : List RpSet → List Outcome × Fronted → List Outcome × Served
run_served sets r = (r.0, served sets r.1)

-- A session without a set is what it is without the front for sets.
abbrev pub WithoutSetsNothingChanges : Type 0
WithoutSetsNothingChanges = (x : Fronted) (es : List Event) → session_run (served [] x) es ≡ run_served [] (front_run x es)

-- A session with nothing before its router is the router.
abbrev pub WithoutFrontNothingChanges : Type 0
WithoutFrontNothingChanges =
    (s : State) (es : List Event)
    → session_run (record { sets = []; front = None; state = s }) es
    ≡ (run s es, record { sets = []; front = None; state = state_after s es })

-- A session with a front for older hosts alone before its router is the joined machine, fed with older queries as those of
-- version 3, whose queries leave cut where an interface queries in version 2.
abbrev pub SessionIsJoined : Type 0
SessionIsJoined =
    (f : Front) (s : State) (es : List Event)
    → ((session_run (record { sets = []; front = Some f; state = s }) es).0
    ≡ map (outcome_left (Some f)) (joined (both f s) (map (event_queried f) es)).0)
    × ((session_run (record { sets = []; front = Some f; state = s }) es).1.state
    ≡ (joined (both f s) (map (event_queried f) es)).1.state)

-- ---- with sets

-- A session with sets, and without a front for older hosts, is the joined machine of RPs that share an address.
abbrev pub SharedSessionIsJoined : Type 0
SharedSessionIsJoined =
    (sets : List RpSet) (s : State) (es : List Event)
    → session_run (record { sets = sets; front = None; state = s }) es
    ≡ ((shared_joined sets s es).0, record { sets = sets; front = None; state = (shared_joined sets s es).1 })

-- the events as the front for sets gives them on
unfoldable pub events_given : List RpSet → Fronted → List Event → List Event
events_given sets x [] = []
events_given sets x (e ∷ es) =
    let later : List Event = events_given sets (front_step x (event_given sets x.state e)).1 es in
    event_given sets x.state e ∷ later

-- outcomes for these events, each with what leaves beside it
unfoldable pub outcomes_beside : List RpSet → Fronted → List Event → List Outcome → List Outcome
outcomes_beside sets x (e ∷ es) (o ∷ os) =
    let after : Fronted = (front_step x (event_given sets x.state e)).1 in
    let later : List Outcome = outcomes_beside sets after es os in
    outcome_with sets x.state after.state e.kind o ∷ later
outcomes_beside sets x es os = []

-- A session with sets is the machine that it is without them, fed what the front for sets gives. What leaves is what leaves
-- of that, with the copies before it and the Null-Registers after it.
abbrev pub SharedSessionIsRun : Type 0
SharedSessionIsRun =
    (sets : List RpSet) (x : Fronted) (es : List Event)
    → ((session_run (served sets x) es).0 ≡ outcomes_beside sets x es (front_run x (events_given sets x es)).0)
    × ((session_run (served sets x) es).1 ≡ served sets (front_run x (events_given sets x es)).1)

-- ---- behind the guard

-- By each event of a list the copies that the router of a session sends are neither IGMP nor PIM, and don't go to
-- 224.0.0.0/24.
unfoldable pub CopiesAreData : Served → List Event → Type 0
CopiesAreData x [] = Unit {0}
CopiesAreData x (e ∷ es) =
    let behind : Event = given_behind x.sets x.front x.state e in
    All (IsOfData x.state behind) (copies_at x.state behind) × CopiesAreData (session_step x e).1 es

-- Whatever comes to a session whose guard is on, each copy that its router sends is of data. What else the router sends
-- on links are its own messages (`OnlyCopiesAreData`).
abbrev pub GuardedSessionCopiesData : Type 0
GuardedSessionCopiesData = (x : Served) (es : List Event) → CopiesAreData x (map (guarded true) es)

-- An event that the guard stops changes nothing of a session, and sends nothing.
abbrev pub StoppedEventChangesNothing : Type 0
StoppedEventChangesNothing = (x : Served) (e : Event) → is_kind_stopped e.kind ≡ true
    → session_step x (guarded true e) ≡ (record { answer = Err Refusal.Short; emissions = []; copies = 0 }, x)

-- A session whose guard is off takes each event as it came.
abbrev pub WithoutGuardSessionStays : Type 0
WithoutGuardSessionStays = (x : Served) (es : List Event) → session_run x (map (guarded false) es) ≡ session_run x es
