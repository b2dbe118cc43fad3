-- The specification's router behind the front: each event as the router is given it, and what leaves beside what the router
-- sends.
use Rattle.std.{specs.Prelude.{Bool, Err, List, Ok, Result, [], ◌++◌, ◌∷◌}}
use Rattle.pim_ip.{specs.{Ipv4.{Packet, ipv4_reading}, declared.refusal.Refusal.Refusal}}
use Rattle.pim_types.{specs.declared.{event.{Event.Event, EventKind.EventKind}, outcome.{Emission.Emission, Outcome.Outcome}}}
use Rattle.pim_model.{specs.{State.State, Step.{Answered, outcome_of, step}}}
use Rattle.pim_anycast.{specs.{Announced.{announced_due, announced_new, is_announced, is_local, local_keys}, Passed.{bytes_given, copies_of, passed}, declared.set.RpSet.RpSet}}

-- an event's kind as the router behind the front is given it
unfoldable pub kind_given : List RpSet → State → EventKind → EventKind
kind_given sets s (EventKind.Unicast bytes) = EventKind.Unicast (bytes_given (passed sets s.ranges bytes) bytes)
kind_given sets s (EventKind.Frame i bytes) = EventKind.Frame i bytes
kind_given sets s (EventKind.Advance moment) = EventKind.Advance moment
kind_given sets s (EventKind.Up i) = EventKind.Up i
kind_given sets s (EventKind.Down i) = EventKind.Down i
kind_given sets s (EventKind.Routes routes) = EventKind.Routes routes
kind_given sets s (EventKind.Rps rps) = EventKind.Rps rps
kind_given sets s (EventKind.RpCandidates candidates) = EventKind.RpCandidates candidates

-- an event as the router is given it
unfoldable pub event_given : List RpSet → State → Event → Event
event_given sets s e = record { draw = e.draw; kind = kind_given sets s e.kind }

-- the copies that leave before what the router sends
abbrev pub sent_before : List RpSet → State → EventKind → List Emission
sent_before sets s (EventKind.Unicast bytes) = copies_of (passed sets s.ranges bytes)
sent_before sets s _ = []

-- the Null-Registers that leave for a packet on a link, by the states before and after its event
abbrev pub packet_announced : List RpSet → State → State → Result Packet Refusal → List Emission
packet_announced sets s t (Ok p) =
    let before : Bool = is_announced sets s.ranges (is_local s p.destination p.source) p.destination in
    announced_new sets t.ranges before (is_local t p.destination p.source) p.destination p.source
packet_announced sets s t (Err refusal) = []

-- the Null-Registers that leave after what the router sends
abbrev pub sent_after : List RpSet → State → State → EventKind → List Emission
sent_after sets s t (EventKind.Frame i bytes) = packet_announced sets s t (ipv4_reading bytes)
sent_after sets s t (EventKind.Advance moment) = announced_due sets t.ranges (local_keys t) s.present t.present
sent_after sets s t _ = []

-- an outcome of the router with what leaves beside it
unfoldable pub outcome_with : List RpSet → State → State → EventKind → Outcome → Outcome
outcome_with sets s t kind o = record {
  answer = o.answer;
  emissions = sent_before sets s kind ++ o.emissions ++ sent_after sets s t kind;
  copies = o.copies;
}

-- an event at the front and the router behind it, by the router's step
abbrev pub joined_with : List RpSet → State → EventKind → Answered → Outcome × State
joined_with sets s kind a = (outcome_with sets s a.state kind (outcome_of a), a.state)

-- one event at the front and the router behind it
unfoldable pub joined_step : List RpSet → State → Event → Outcome × State
joined_step sets s e = joined_with sets s e.kind (step s (event_given sets s e))

-- Events one after the other: the outcomes, and the router's state at the end.
unfoldable pub joined : List RpSet → State → List Event → List Outcome × State
joined sets s [] = ([], s)
joined sets s (e ∷ es) =
    let first : Outcome × State = joined_step sets s e in
    let later : List Outcome × State = joined sets first.1 es in
    (first.0 ∷ later.0, later.1)

-- the events as the router is given them
unfoldable pub events_given : List RpSet → State → List Event → List Event
events_given sets s [] = []
events_given sets s (e ∷ es) =
    let later : List Event = events_given sets (joined_step sets s e).1 es in
    event_given sets s e ∷ later

-- outcomes of the router for these events, each with what leaves beside it
unfoldable pub outcomes_with : List RpSet → State → List Event → List Outcome → List Outcome
outcomes_with sets s (e ∷ es) (o ∷ os) =
    let after : State = (joined_step sets s e).1 in
    let later : List Outcome = outcomes_with sets after es os in
    outcome_with sets s after e.kind o ∷ later
outcomes_with sets s es os = []
