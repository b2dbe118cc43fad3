-- The packets of a source set SPTbit hop by hop, as they come down the way that was joined.
use Rattle.std.{specs.{List.Contains, Prelude.{Bool, List, Some, [], false, is_some, length, not, slice_get, true, ℕ, ◌&&◌, ◌+◌, ◌<◌, ◌==◌, ◌||◌, ◌∷◌, ◌≡◌}}}
use Rattle.pim_ip.{specs.Ipv4.{Packet, copy_text, is_link_local, is_multicast}}
use Rattle.pim_types.{specs.declared.event.Event.Event}
use Rattle.pim_model.{specs.{Desires.{rpf_source, rpf_star}, Full.source_is_full, Network.{Move, Network, network_ran, station_at}, Sets.{assert_source, inherited_olist_rpt, is_empty, is_loser}, State.{State, iface_count, is_own, is_up}, Step.step, Tables.{same_hop, same_option}, Unicast.{is_connected, is_rpf_interface, rpf_interface, rpf_interface_rp}, Writing.on_link}}
use Rattle.law_streams.{specs.{Copies.copies_at, Served.Came, Flows.{IsCarried, top_link}, HostsServed.became, Ways.{AreApart, AreDeliveries, IsNotAmong, Place, StandIn, state_of, up_iface}, Passing.{GoesOut, Passes, Receiver, Tree}, Streams.PassesAt}}
use Rattle.law_settled.{specs.Ready.IsSettled}

-- ---- at one router

-- what Update_SPTbit(S,G,iif) asks beside the interface and JoinDesired(S,G) (4.2.2): the source is on a link of the
-- router, or RPF_interface(S) isn't RPF_interface(RP(G)), or inherited_olist(S,G,rpt) is NULL, or RPF'(S,G) is
-- RPF'(*,G), or the assert of (S,G) there is lost
unfoldable pub may_turn : State → ℕ → ℕ → ℕ → Bool
may_turn s g src up =
    is_connected s src
    || not (same_option (rpf_interface s src) (rpf_interface_rp s g))
    || is_empty s (inherited_olist_rpt s g src)
    || (is_some (rpf_source s g src) && same_hop (rpf_source s g src) (rpf_star s g))
    || is_loser (assert_source s g src up)

-- a router joined the source on a link where no assert is lost, and the packets come in on the way to the source
pub record CanTurn (s : State) (g src up down : ℕ) : Type 0 where
  pub settled : IsSettled s
  pub configured : up < iface_count s
  pub is_up : is_up s up ≡ true
  pub foreign : is_own s src ≡ false
  pub way : is_rpf_interface s src up ≡ true
  pub may : may_turn s g src up ≡ true
  pub goes_out : GoesOut Receiver.SourceRouter s g src down
  pub on : (down == up) ≡ false

-- A packet of the source leaves on the link, and after its event the router passes the stream on the source's tree.
pub record TurnsBy (s : State) (e : Event) (p : Packet) (up down : ℕ) : Type 0 where
  pub leaves : Contains (copies_at s e) (on_link down (copy_text p))
  pub passes : Passes Tree.Source Receiver.SourceRouter (step s e).state p.destination p.source up down

-- The first packet on the way to its source sets SPTbit where a router joined the source, and is served.
abbrev pub PacketSetsSptBit : Type 0
PacketSetsSptBit = (s : State) (e : Event) (p : Packet) (up down : ℕ)
    → CanTurn s p.destination p.source up down → Came s e (record { number = up }) p → TurnsBy s e p up down

-- ---- along a way

-- a router of a way, between the link to its next hop, which is that to the source, and a link
pub record TurnsAt (g src link : ℕ) (p : Place) : Type 0 where
  pub turns : CanTurn (state_of p) g src (up_iface p) p.down
  pub room : source_is_full (state_of p) g src ≡ false
  pub down_linked : slice_get (p.station).links p.down ≡ Some link
  pub up_linked : slice_get (p.station).links (up_iface p) ≡ Some p.next_link

-- Each router of a way turns to the source's tree with the first packet on it.
abbrev pub AreTurning : (g src link : ℕ) → List Place → Type 0
AreTurning g src link [] = Unit {0}
AreTurning g src link (p ∷ ps) = TurnsAt g src link p × AreTurning g src p.next_link ps

-- A router of the way passes the stream on the source's tree.
pub record HasTurned (n : Network) (g src link : ℕ) (p : Place) : Type 0 where
  pub state : State
  pub stands : station_at n p.router ≡ Some (became p state).station
  pub passes : PassesAt Tree.Source Receiver.SourceRouter g src link (became p state)

-- Each router of a way has turned to the source's tree.
abbrev pub HaveTurned : Network → (g src link : ℕ) → List Place → Type 0
HaveTurned n g src link [] = Unit {0}
HaveTurned n g src link (p ∷ ps) = HasTurned n g src link p × HaveTurned n g src p.next_link ps

-- deliveries, one for each router, after which the packet is on the lower link and all of them pass the stream on the
-- source's tree
pub record IsTurned (n : Network) (g src link : ℕ) (payload : List ℕ) (lives : ℕ) (ps : List Place) : Type 0 where
  pub moves : List Move
  pub deliveries : AreDeliveries moves
  pub one_each : length moves ≡ length ps
  pub arrived : IsCarried (network_ran n moves).1 g src link payload lives
  pub turned : HaveTurned (network_ran n moves).1 g src link ps
  pub others : (r : ℕ) → IsNotAmong r ps → station_at (network_ran n moves).1 r ≡ station_at n r

-- the first packet of the source on the link above comes down a way that was joined, and turns each router of it
abbrev pub SourceTreeBegins : Type 0
SourceTreeBegins = (n : Network) (g src link lives : ℕ) (payload : List ℕ) (ps : List Place)
    → is_multicast g ≡ true → is_link_local g ≡ false → 0 < lives
    → AreTurning g src link ps → StandIn n ps → AreApart ps
    → IsCarried n g src (top_link link ps) payload (lives + length ps)
    → IsTurned n g src link payload lives ps
