-- What a router and what stands before it show after an event that had no fault.
use Rattle.std.{specs.Prelude.{◌≡◌, Bool, true, false, ℕ, List, Option, Result, Ok, Err}}
use Rattle.pim_ip.{specs.declared.refusal.Refusal.Refusal}
use Rattle.pim_types.{specs.declared.{config.IfaceId.IfaceId, event.{Event.Event, EventKind.EventKind}, outcome.{Emission.Emission, Verdict.Verdict}}}
use Rattle.pim_model.{specs.{State.State, Step.step}}
use Rattle.pim_router.{specs.{Standing.{Shown as RouterShown}, Stepped.{Stepped, TookEvent}}}
use Rattle.igmp_older.{specs.{Joined.{event_given, joined_step}, declared.front.Given.Given}}
use Rattle.pim_session.{specs.Front.{Front, both, emissions_leaving, front_after, given}}

-- A router took an event in which no older query is left, behind what stood before it.
pub record Took (f : Front) (s : State) (e : Event) (before : List Emission) (answered : Result Verdict Refusal)
    (left : RouterShown) (after : List Emission) (known : Front) : Type 0 where
  pub stepped : Stepped s (event_given (both f s) e) before answered left after
  pub knows : known ≡ record f { present = (joined_step (both f s) e).1.present }

-- a packet came on an interface
abbrev pub frame_event : ℕ → IfaceId → List ℕ → Event
frame_event draw iface bytes = record { draw = draw; kind = EventKind.Frame iface bytes }

-- the packet that is given: as it came, or as it was written
abbrev pub packet_of : Given → List ℕ → List ℕ → List ℕ
packet_of Given.Same bytes written = bytes
packet_of (Given.Rewritten older) bytes written = written

-- the event makes and forgets nothing of what stands before the router
abbrev pub is_plain : EventKind → Bool
is_plain (EventKind.Frame i bytes) = false
is_plain (EventKind.Advance moment) = false
is_plain (EventKind.Down i) = false
is_plain (EventKind.Unicast bytes) = true
is_plain (EventKind.Up i) = true
is_plain (EventKind.Routes routes) = true
is_plain (EventKind.Rps rps) = true
is_plain (EventKind.RpCandidates candidates) = true

abbrev pub is_done : Result Verdict Refusal → Bool
is_done (Ok Verdict.Done) = true
is_done (Ok (Verdict.Ignored reason)) = false
is_done (Err refusal) = false

-- A router took an event behind what stood before it, if anything did: what it answered and shows, what leaves, and
-- what stands before it then.
pub record SteppedBehind (front : Option Front) (s : State) (e : Event) (answered : Result Verdict Refusal)
    (left : RouterShown) (leaving : List Emission) (after : Option Front) : Type 0 where
  pub took : TookEvent s (given front s e) answered left
  pub sent : leaving ≡ emissions_leaving front (step s (given front s e)).emissions
  pub known : after ≡ front_after front s e
