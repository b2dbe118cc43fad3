-- A router behind all that stands before it: sets of RPs that share an address (RFC 4610), and then what is known of hosts
-- and routers of older versions of IGMP. The one reads packets by unicast alone, the other packets on links alone.
use Rattle.std.{specs.Prelude.{Bool, Err, List, None, Ok, Option, Result, Some, false, if◌then◌else◌, min, option_and_then, true, ℕ, ◌&&◌, ◌++◌, ◌≡◌}}
use Rattle.pim_ip.{specs.declared.refusal.Refusal.Refusal}
use Rattle.pim_types.{specs.declared.{config.Config.Config, event.{Event.Event, EventKind.EventKind}, outcome.{Emission.Emission, Verdict.Verdict}}}
use Rattle.pim_model.specs.{State.{State, addressing_of}, Step.step, Timers.next_moment}
use Rattle.pim_router.{specs.{Standing.{Shown as RouterShown}, Stepped.TookEvent}}
use Rattle.pim_anycast.{specs.{Announced.{announced_new, is_announced, is_local, next_announcement}, Joined.{event_given, sent_after, sent_before}, Passed.passed, Sets.are_rp_sets, declared.{front.Passed.Passed, set.RpSet.RpSet}}}
use Rattle.pim_session.{specs.{Behind.SteppedBehind, Front.{Front, emissions_leaving, front_after, given, is_sure}, Session.ShownSession, declared.refused.ReloadRefusal.ReloadRefusal}}

-- ---- an event at a router behind both

-- an event as the router is given it
unfoldable pub given_behind : List RpSet → Option Front → State → Event → Event
given_behind sets front s e = given front s (event_given sets s e)

-- what is known of older hosts after an event
unfoldable pub front_behind : List RpSet → Option Front → State → Event → Option Front
front_behind sets front s e = front_after front s (event_given sets s e)

-- What leaves of what the router sent by an event, by its states before and after: copies of a Register before it, and
-- Null-Registers after it.
unfoldable pub left_behind : List RpSet → Option Front → (s t : State) → EventKind → List Emission → List Emission
left_behind sets front s t kind sent = sent_before sets s kind ++ emissions_leaving front sent ++ sent_after sets s t kind

-- the sets leave a packet as it came
abbrev pub is_as_it_came : Passed → Bool
is_as_it_came Passed.AsItCame = true
is_as_it_came (Passed.Copied copies) = false
is_as_it_came (Passed.Counted text) = false

abbrev pub is_left_alone : List RpSet → State → EventKind → Bool
is_left_alone sets s (EventKind.Unicast bytes) = is_as_it_came (passed sets s.ranges bytes)
is_left_alone sets s _ = true

-- an event for which no memory is taken
unfoldable pub is_sure_behind : List RpSet → Option Front → State → Event → Bool
is_sure_behind sets front s e = is_left_alone sets s e.kind && is_sure front s (event_given sets s e)

-- a packet by unicast
abbrev pub unicast_event : ℕ → List ℕ → Event
unicast_event draw bytes = record { draw = draw; kind = EventKind.Unicast bytes }

-- an event brings these bytes on an interface
abbrev pub BringsFrame : List ℕ → EventKind → Type 0
BringsFrame bytes (EventKind.Frame i brought) = brought ≡ bytes
BringsFrame bytes _ = ⊥

abbrev pub is_advance : EventKind → Bool
is_advance (EventKind.Advance moment) = true
is_advance _ = false

-- the sets change nothing about an event, whatever they are
abbrev pub is_unshared : EventKind → Bool
is_unshared (EventKind.Frame i bytes) = false
is_unshared (EventKind.Advance moment) = false
is_unshared (EventKind.Unicast bytes) = false
is_unshared (EventKind.Up i) = true
is_unshared (EventKind.Down i) = true
is_unshared (EventKind.Routes routes) = true
is_unshared (EventKind.Rps rps) = true
is_unshared (EventKind.RpCandidates candidates) = true

-- The Null-Registers that leave for a packet of a source, by the states before and after its event.
unfoldable pub name_announced : List RpSet → (s t : State) → (g src : ℕ) → List Emission
name_announced sets s t g src =
    announced_new sets t.ranges (is_announced sets s.ranges (is_local s g src) g) (is_local t g src) g src

-- A router took an event behind what is known of older hosts, and some packets left before what left of it, others after.
pub record Beside (first last : List Emission) (front : Option Front) (s : State) (e : Event) (answered : Result Verdict Refusal)
    (left : RouterShown) (leaving : List Emission) (after : Option Front) : Type 0 where
  pub sent : List Emission
  pub stepped : SteppedBehind front s e answered left sent after
  pub leaves : leaving ≡ first ++ sent ++ last

-- A router took an event behind both: what it answered and shows, what leaves, and what is known of older hosts then.
pub record Reached (sets : List RpSet) (front : Option Front) (s : State) (e : Event) (answered : Result Verdict Refusal)
    (left : RouterShown) (leaving : List Emission) (after : Option Front) : Type 0 where
  pub took : TookEvent s (given_behind sets front s e) answered left
  pub sent : leaving ≡ left_behind sets front s (step s (given_behind sets front s e)).state e.kind (step s (given_behind sets front s e)).emissions
  pub known : after ≡ front_behind sets front s e

-- A router took the event of a packet of a source that a data plane saw: what it answered and shows, and what leaves.
pub record Saw (sets : List RpSet) (s : State) (e : Event) (g src : ℕ) (answered : Result Verdict Refusal)
    (left : RouterShown) (leaving : List Emission) : Type 0 where
  pub took : TookEvent s e answered left
  pub sent : leaving ≡ (step s e).emissions ++ name_announced sets s (step s e).state g src

-- ---- an event at a session

-- an event as the session's router is given it
abbrev pub event_in : ShownSession → State → Event → Event
event_in x s e = given_behind x.sets x.front s e

-- what is known of older hosts after an event
abbrev pub front_in : ShownSession → State → Event → Option Front
front_in x s e = front_behind x.sets x.front s e

-- what leaves of what the session's router sent by an event
unfoldable pub left_in : ShownSession → State → Event → List Emission → List Emission
left_in x s e sent = left_behind x.sets x.front s (step s (event_in x s e)).state e.kind sent

-- what leaves by an event
abbrev pub leaving : ShownSession → State → Event → List Emission
leaving x s e = left_in x s e (step s (event_in x s e)).emissions

-- an event for which the session takes no memory
abbrev pub is_sure_in : ShownSession → State → Event → Bool
is_sure_in x s e = is_sure_behind x.sets x.front s e

-- What leaves of what the router sent by the event of a packet of a source that a data plane saw. The router is given the
-- event as it is, and no query is among what it sends.
unfoldable pub seen_in : ShownSession → State → Event → (g src : ℕ) → List Emission → List Emission
seen_in x s e g src sent = sent ++ name_announced x.sets s (step s e).state g src

-- what leaves by that event
abbrev pub seen_leaving : ShownSession → State → Event → (g src : ℕ) → List Emission
seen_leaving x s e g src = seen_in x s e g src (step s e).emissions

-- ---- time

-- the sooner of two timestamps
abbrev pub sooner : Option ℕ → Option ℕ → Option ℕ
sooner None b = b
sooner (Some a) None = Some a
sooner (Some a) (Some b) = Some (min a b)

-- when the router's next timer expires or announcements are due, whichever is sooner
unfoldable pub next_in : ShownSession → Option ℕ
next_in x =
    option_and_then (λ r. sooner (next_moment r.state) (next_announcement x.sets r.state.present)) x.router.standing

-- ---- reloads

abbrev pub refused_as : Result (Unit {0}) Refusal → Result (Unit {0}) ReloadRefusal
refused_as (Ok done) = Ok done
refused_as (Err refusal) = Err (ReloadRefusal.Configuration refusal)

-- The tests of a reload: that the sets fit the addresses of its configuration, and then that it is accepted.
unfoldable pub reload_tested : List RpSet → Config → Result (Unit {0}) Refusal → Result (Unit {0}) ReloadRefusal
reload_tested sets c test =
    if are_rp_sets (addressing_of c) sets then refused_as test else Err ReloadRefusal.SetsDontFit
