-- From router to router: a packet and its copies don't go on for ever.
use Rattle.std.{specs.{List.Contains, Prelude.{List, Some, [], length, ℕ, ◌<◌, ◌∷◌, ◌≡◌}}}
use Rattle.pim_ip.{specs.{Ipv4.Packet, declared.addr.Addr.Addr}}
use Rattle.pim_types.{specs.declared.{config.IfaceId.IfaceId, event.{Event.Event, EventKind.EventKind}, outcome.Emission.Emission}}
use Rattle.pim_model.{specs.{declared.accepted.Accepted.Accepted, Cause.{done_as, packet_in}, State.State, Step.change}}
use Rattle.law_streams.{specs.Copies.{copies_at, happens}}

-- An emission comes to a router: on one of its interfaces, or to an address of its own.
pub data Comes (x : Emission) (e : Event) : Type 0 where
  OnALink : (i j : IfaceId) (bytes : List ℕ) → x ≡ Emission.Link i bytes → e.kind ≡ EventKind.Frame j bytes → Comes x e
  ToARouter : (to : Addr) (bytes : List ℕ) → x ≡ Emission.Unicast to bytes → e.kind ≡ EventKind.Unicast bytes → Comes x e

-- What the router then forwards: a copy of the packet, or the Register around one.
pub data GoesOn (s : State) (e : Event) (y : Emission) : Type 0 where
  AsACopy : Contains (copies_at s e) y → GoesOn s e y
  InTheTunnel : (a : Accepted) → done_as (happens s e) ≡ Some a → Contains (change s e.draw a).registered y → GoesOn s e y

-- a hop: a router in any state, to which x comes, sends y on
pub record Hop (x y : Emission) : Type 0 where
  pub state : State
  pub event : Event
  pub comes : Comes x event
  pub packet : Packet
  pub brought : packet_in (done_as (happens state event)) ≡ Some packet
  pub goes_on : GoesOn state event y

-- Each emission of a list is a hop away from the one before.
abbrev pub IsChainOfHops : List Emission → Type 0
IsChainOfHops [] = Unit {0}
IsChainOfHops (x ∷ []) = Unit {0}
IsChainOfHops (x ∷ y ∷ more) = Hop x y × IsChainOfHops (y ∷ more)

-- A packet makes fewer hops than its TTL, through any routers in any states, and whatever is lost, repeated or
-- reordered.
abbrev pub HopsEnd : Type 0
HopsEnd = (x y : Emission) (more : List Emission) (first : Hop x y) → IsChainOfHops (y ∷ more)
    → length (y ∷ more) < first.packet.time_to_live
