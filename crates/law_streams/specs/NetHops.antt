-- Hops in a network of routers, whose frames are delivered any number of times and in any order.
use Rattle.std.{specs.Prelude.{List, None, Some, [], length, ℕ, ◌<◌, ◌∷◌, ◌≡◌, ◌≤◌}}
use Rattle.pim_ip.{specs.Ipv4.Packet}
use Rattle.pim_types.{specs.declared.{event.Event.Event, outcome.Emission.Emission}}
use Rattle.pim_model.{specs.{Cause.{done_as, packet_in}, Network.{At, Deliver, DeliverUnicast, Move, Network, Sent, Station, event_of, frame_at, sent_by, station_at}, State.iface_count}}
use Rattle.law_streams.{specs.{Copies.happens, Hops.GoesOn}}

-- the move delivers the frame: on a link, or as a unicast where it was sent as one
abbrev pub Delivers : Network → Move → Sent → Type 0
Delivers n (At r e) f = ⊥
Delivers n (Deliver r i k draw) f = frame_at n k ≡ Some f
Delivers n (DeliverUnicast r k draw) f = (frame_at n k ≡ Some f) × (f.link ≡ None)

-- a move of a network, whatever happened in it before: a frame is delivered to a router with a link for each of its
-- interfaces, which sends another with the packet
pub record NetHop (f g : Sent) : Type 0 where
  pub network : Network
  pub move : Move
  pub delivers : Delivers network move f
  pub router : ℕ
  pub event : Event
  pub is : event_of network move ≡ Some (router, event)
  pub station : Station
  pub at : station_at network router ≡ Some station
  pub linked : iface_count station.state ≤ length station.links
  pub packet : Packet
  pub brought : packet_in (done_as (happens station.state event)) ≡ Some packet
  pub out : Emission
  pub goes_on : GoesOn station.state event out
  pub sent : g ≡ sent_by station.links out

-- Frames of a network, each of which made the next one leave.
abbrev pub AreNetHops : List Sent → Type 0
AreNetHops [] = Unit {0}
AreNetHops (f ∷ []) = Unit {0}
AreNetHops (f ∷ g ∷ more) = NetHop f g × AreNetHops (g ∷ more)

-- In a network a packet makes fewer hops than its TTL.
abbrev pub NetHopsEnd : Type 0
NetHopsEnd = (f g : Sent) (more : List Sent) (first : NetHop f g) → AreNetHops (g ∷ more)
    → length (g ∷ more) < first.packet.time_to_live
