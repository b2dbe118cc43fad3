-- A way from router to router, from the requester towards the RP.
use Rattle.std.{specs.{List.AllByRecursion, Prelude.{List, Some, [], false, length, slice_get, true, ℕ, ◌<◌, ◌==◌, ◌^◌, ◌∷◌, ◌≡◌}}}
use Rattle.pim_ip.{specs.Ipv4.{is_link_local, is_multicast, is_unicast}}
use Rattle.pim_types.{specs.{Keys.source_key, declared.path.Hop.Hop}}
use Rattle.pim_wire.{specs.declared.join_prune.EntryKind.EntryKind}
use Rattle.pim_model.{specs.{Desires.join_desired_star, Full.passes_limit, Messages.entry, Neighbours.nbr, Network.{At, Deliver, DeliverUnicast, Move, Network, Station, frame_at, network_ran, station_at}, Sets.{assert_source, assert_star, is_loser, spt_bit}, State.{State, is_up, my_address}, Tables.has_row, Unicast.{rp_of, rp_route}}}
use Rattle.law_settled.{specs.Ready.IsSettled}
use Rattle.law_streams.{specs.Joins.{Hears, TakesStar, join_packet, join_value}}

-- A router on a way in its present state: the interface on which the Join comes to it, the neighbour to which its own
-- Join goes with the link to that, and the draw of the event.
pub record Place : Type 0 where
  pub router : ℕ
  pub station : Station
  pub down : ℕ
  pub next : Hop
  pub next_link : ℕ
  pub draw : ℕ

-- The state of the router at a place.
abbrev pub state_of : Place → State
state_of p = (p.station).state

-- The interface to the router's next hop, and the router's own address on it.
abbrev pub up_iface : Place → ℕ
up_iface p = (p.next).iface.number

-- The router's address on the interface to its next hop.
abbrev pub up_address : Place → ℕ
up_address p = my_address (state_of p) (up_iface p)

-- ---- what a router on the way has to know

-- The group has this RP(G), and its packets may leave their link.
pub record IsGroup (g rp : ℕ) : Type 0 where
  pub multicast : is_multicast g ≡ true
  pub goes_far : is_link_local g ≡ false
  pub rp_host : is_unicast rp ≡ true

-- The router takes a Join(*,G) from this neighbour to this address on this link.
pub record CanTake (g rp from to link : ℕ) (p : Place) : Type 0 where
  pub hears : Hears (state_of p) p.down from
  pub from_host : is_unicast from ≡ true
  pub to_fits : to < 2 ^ 32
  pub own : my_address (state_of p) p.down ≡ to
  pub on_link : slice_get (p.station).links p.down ≡ Some link
  pub rp_known : rp_of (state_of p) g ≡ Some rp
  pub room : passes_limit (state_of p) 1 ≡ false

-- The group is new to the router: nobody requested it, the router has no fact of its sources, and it lost no assert for
-- it.
pub record IsNew (s : State) (g : ℕ) : Type 0 where
  pub unwanted : join_desired_star s g ≡ false
  pub sourceless : (src : ℕ) → has_row s.sources (source_key 0 g src) ≡ false
  pub unlost : (i : ℕ) → is_loser (assert_star s g i) ≡ false
  pub unlost_source : (src i : ℕ) → is_loser (assert_source s g src i) ≡ false

-- A router that takes a Join(*,G) sends one itself: its next hop to RP(G) is a live neighbour.
pub record CanGoOn (g : ℕ) (p : Place) : Type 0 where
  pub new : IsNew (state_of p) g
  pub next : nbr (state_of p) (rp_route (state_of p) g) ≡ Some p.next
  pub linked : slice_get (p.station).links (up_iface p) ≡ Some p.next_link

-- Each router of a way but the last sends its Join to the next, whose address on the link between them is the next
-- hop's. The last, the RP or a router on its tree, need only take the Join.
abbrev pub IsWay : (g rp from to link : ℕ) → List Place → Type 0
IsWay g rp from to link [] = Unit {0}
IsWay g rp from to link (p ∷ []) = CanTake g rp from to link p
IsWay g rp from to link (p ∷ q ∷ ps) =
    CanTake g rp from to link p × CanGoOn g p × IsWay g rp (up_address p) (p.next).address.bits p.next_link (q ∷ ps)

-- The routers of the way are in the network, in these states.
abbrev pub StandIn : Network → List Place → Type 0
StandIn n ps = AllByRecursion (λ p. station_at n p.router ≡ Some p.station) ps

-- The router isn't on the way.
abbrev pub IsNotAmong : ℕ → List Place → Type 0
IsNotAmong r ps = AllByRecursion (λ (q : Place). (q.router == r) ≡ false) ps

-- No router is at two places of a way.
abbrev pub AreApart : List Place → Type 0
AreApart [] = Unit {0}
AreApart (p ∷ ps) = IsNotAmong p.router ps × AreApart ps

-- a frame was sent on a link
pub record IsOnLink (n : Network) (link : ℕ) (bytes : List ℕ) : Type 0 where
  pub number : ℕ
  pub is : frame_at n number ≡ Some (record { link = Some link; bytes = bytes })

-- ---- the routers of the way after a Join

-- What a router knows still holds after it: how it is configured, which interfaces are up, RP(G) and the next hop to
-- it, that no assert of a source is lost and no SPTbit is set; and at most one fact was added.
pub record GoesOnWith (s t : State) (g : ℕ) : Type 0 where
  pub configured : t.configured ≡ s.configured
  pub up : (i : ℕ) → is_up t i ≡ is_up s i
  pub rp_known : (rp : ℕ) → rp_of s g ≡ Some rp → rp_of t g ≡ Some rp
  pub next : (hop : Hop) → nbr s (rp_route s g) ≡ Some hop → nbr t (rp_route t g) ≡ Some hop
  pub unlost : (src i : ℕ) → is_loser (assert_source s g src i) ≡ false → is_loser (assert_source t g src i) ≡ false
  pub unset : (src : ℕ) → has_row s.sources (source_key 0 g src) ≡ false → spt_bit t g src ≡ false
  pub room : IsSettled s → passes_limit s 2 ≡ false → passes_limit t 1 ≡ false

-- The router took the Join(*,G), and did nothing else.
pub record HasTaken (n : Network) (g rp : ℕ) (p : Place) : Type 0 where
  pub state : State
  pub stands : station_at n p.router ≡ Some (record p.station { state = state })
  pub takes : TakesStar (state_of p) state p.down g
      (join_value (my_address (state_of p) p.down) g (entry EntryKind.Star rp) [])
  pub goes_on : GoesOnWith (state_of p) state g

-- a frame that was sent is delivered, and nothing else happens
abbrev pub IsDelivery : Move → Type 0
IsDelivery (Deliver r i k draw) = Unit {0}
IsDelivery (At r e) = ⊥
IsDelivery (DeliverUnicast r k draw) = ⊥

-- All moves are deliveries of frames.
abbrev pub AreDeliveries : List Move → Type 0
AreDeliveries moves = AllByRecursion IsDelivery moves

-- Deliveries, one for each router, after which all routers of the way took the Join, and no other router did anything.
pub record IsClimbed (n : Network) (g rp : ℕ) (ps : List Place) : Type 0 where
  pub moves : List Move
  pub deliveries : AreDeliveries moves
  pub one_each : length moves ≡ length ps
  pub taken : AllByRecursion (HasTaken (network_ran n moves).1 g rp) ps
  pub others : (r : ℕ) → IsNotAmong r ps → station_at (network_ran n moves).1 r ≡ station_at n r

-- A Join(*,G) on a link climbs a way of any length that has no router twice, by deliveries with nothing in between:
-- each router takes it by a delivery of the Join of the one before it.
abbrev pub JoinClimbs : Type 0
JoinClimbs = (n : Network) (g rp from to link k : ℕ) (ps : List Place)
    → IsGroup g rp → IsWay g rp from to link ps → StandIn n ps → AreApart ps
    → frame_at n k ≡ Some (record { link = Some link; bytes = join_packet from to g (entry EntryKind.Star rp) [] })
    → IsClimbed n g rp ps
