-- The last router of a way, at which the packets come, on a tree or in Registers.
use Rattle.std.{specs.Prelude.{Bool, List, Option, Some, [], false, length, slice_get, true, ℕ, ◌+◌, ◌<◌, ◌==◌, ◌||◌, ◌∷◌, ◌≡◌}}
use Rattle.pim_ip.{specs.Ipv4.{is_link_local, is_multicast}}
use Rattle.pim_types.{specs.declared.event.{Event.Event, EventKind.EventKind}}
use Rattle.pim_model.{specs.{declared.accepted.Accepted.Accepted, Cause.done_as, Full.source_is_full, Network.{At, Move, Network, moved, network_ran}, Sets.spt_bit, State.{State, is_own}, Step.{state_after, step}, Unicast.rp_of}}
use Rattle.law_streams.{specs.{Networks.events_in, Copies.happens, Flows.{IsFlowed, top_link}, Roots.{IsBrought, IsRegister}, Ways.{AreApart, Place, StandIn, state_of}, Passing.{GoesOut, Receiver, Tree, is_lost, takes_from}, Streams.{IsStreamed, NoneEndsStream, later_place}}}
use Rattle.law_settled.{specs.Ready.IsSettled}

-- What comes to the router leaves on an interface.
pub record Sends (s : State) (g src down : ℕ) : Type 0 where
  pub settled : IsSettled s
  pub goes_out : GoesOut Receiver.Router s g src down

-- The interface goes down, or an assert there is lost.
abbrev pub takes_out : State → ℕ → ℕ → ℕ → Option Accepted → Bool
takes_out t g src down (Some (Accepted.Down j)) = j.number == down
takes_out t g src down (Some (Accepted.Assert j from a)) = is_lost t g src down
takes_out t g src down o = false

-- An event stops the last router of a way from sending the stream.
unfoldable pub ends_sending : State → Event → ℕ → ℕ → ℕ → Bool
ends_sending s e g src down =
    let t : State = (step s e).state in
    let done : Option Accepted = done_as (happens s e) in
    takes_out t g src down done || takes_from Receiver.Router s t g src down done

-- An event stops the last router from sending the stream only where the test `ends_sending` says so.
abbrev pub EventKeepsSending : Type 0
EventKeepsSending = (s : State) (e : Event) (g src down : ℕ) → Sends s g src down
    → ends_sending s e g src down ≡ false → Sends (step s e).state g src down

-- No event of a list stops the last router of a way from sending the stream.
abbrev pub NoneEndsSending : State → List Event → ℕ → ℕ → ℕ → Type 0
NoneEndsSending s [] g src down = Unit {0}
NoneEndsSending s (e ∷ es) g src down =
    (ends_sending s e g src down ≡ false) × NoneEndsSending (step s e).state es g src down

-- Whether one of a list of events stops the router from sending.
unfoldable pub any_ends_sending : State → List Event → ℕ → ℕ → ℕ → Bool
any_ends_sending s [] g src down = false
any_ends_sending s (e ∷ es) g src down =
    let later : Bool = any_ends_sending (step s e).state es g src down in
    ends_sending s e g src down || later

-- A list of events, of which none stops it, leaves the last router sending the stream.
abbrev pub RunKeepsSending : Type 0
RunKeepsSending = (s : State) (events : List Event) (g src down : ℕ) → Sends s g src down
    → NoneEndsSending s events g src down → Sends (state_after s events) g src down

-- A Register to the RP brings its packet while SPTbit(S,G) isn't set there and there is room for the source's fact,
-- whatever else the RP knows of the source.
abbrev pub EachRegisterIsBrought : Type 0
EachRegisterIsBrought = (t : State) (g rp src draw down lives : ℕ) (bytes payload : List ℕ)
    → is_link_local g ≡ false → is_own t rp ≡ true → rp_of t g ≡ Some rp
    → spt_bit t g src ≡ false → source_is_full t g src ≡ false → IsRegister g src rp bytes payload lives
    → IsBrought t (record { draw = draw; kind = EventKind.Unicast bytes }) g src down payload lives

-- After any moves that end nothing at the last router or at those below it, each packet that is brought to the last
-- comes down to the requester.
abbrev pub EachOfStreamIsServed : Type 0
EachOfStreamIsServed = (tree : ℕ → Tree) (by : ℕ → Receiver) (n : Network) (ms : List Move) (g src link lives : ℕ)
    (payload : List ℕ)
    (root : Place) (ps : List Place) (d : Event)
    → is_multicast g ≡ true → is_link_local g ≡ false → 0 < lives
    → Sends (state_of root) g src root.down → slice_get (root.station).links root.down ≡ Some (top_link link ps)
    → IsStreamed tree by g src link ps → StandIn n (root ∷ ps) → AreApart (root ∷ ps)
    → NoneEndsSending (state_of root) (events_in root.router n ms) g src root.down
    → NoneEndsStream tree by g src n ms ps
    → IsBrought (state_of (later_place n ms root)) d g src root.down payload (lives + length ps)
    → IsFlowed (moved (network_ran n ms).1 (At root.router d)).1 g src link payload lives ps
