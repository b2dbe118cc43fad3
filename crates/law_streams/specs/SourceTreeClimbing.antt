-- A Join(S,G) climbs the way to its source, with any time, and anything else, between its deliveries.
use Rattle.std.{specs.Prelude.{List, Some, [], false, slice_get, true, ℕ, ◌<◌, ◌^◌, ◌∷◌, ◌≡◌}}
use Rattle.pim_ip.{specs.Ipv4.{is_link_local, is_multicast, is_unicast}}
use Rattle.pim_wire.{specs.declared.join_prune.EntryKind.EntryKind}
use Rattle.pim_model.{specs.{Desires.join_desired, Full.passes_limit, Messages.entry, Neighbours.nbr, Network.{Network, Sent, frame_at, network_ran, station_at}, Sets.{assert_source, is_loser}, State.{State, my_address}, Unicast.route}}
use Rattle.law_streams.{specs.{Joins.{Hears, TakesSource, join_packet, join_value}, Ways.{Place, state_of, up_address, up_iface}, Climbing.{Stop, delivered}}}

-- a group that may leave its link, and a source with the address of a host
pub record IsSource (g src : ℕ) : Type 0 where
  pub multicast : is_multicast g ≡ true
  pub goes_far : is_link_local g ≡ false
  pub host : is_unicast src ≡ true

-- the frame of a Join(S,G) on a link
abbrev pub join_source_packet : (g src from to link : ℕ) → Sent
join_source_packet g src from to link =
    record { link = Some link; bytes = join_packet from to g (entry EntryKind.Source src) [] }

-- ---- what a router on the way to the source has to know

-- a router takes a Join(S,G) from a neighbour to its address on a link
pub record CanTakeSource (from to link : ℕ) (p : Place) : Type 0 where
  pub hears : Hears (state_of p) p.down from
  pub from_host : is_unicast from ≡ true
  pub to_fits : to < 2 ^ 32
  pub own : my_address (state_of p) p.down ≡ to
  pub on_link : slice_get (p.station).links p.down ≡ Some link
  pub room : passes_limit (state_of p) 1 ≡ false

-- A router that takes the Join sends its own: it didn't want the source, the next hop to the source is a live
-- neighbour, and no assert of (S,G) is lost on the interface to it.
pub record CanGoOnToSource (g src : ℕ) (p : Place) : Type 0 where
  pub unwanted : join_desired (state_of p) g src ≡ false
  pub next : nbr (state_of p) (route (state_of p) src) ≡ Some p.next
  pub unlost : is_loser (assert_source (state_of p) g src (up_iface p)) ≡ false
  pub linked : slice_get (p.station).links (up_iface p) ≡ Some p.next_link

-- Each router can take the Join when it comes, and each except the last sends its own to the next. The last router, which
-- has the source on a link or wants it already, need only take it.
abbrev pub IsSourceWayOver : (g src from to link : ℕ) → Network → List Stop → Type 0
IsSourceWayOver g src from to link n [] = Unit {0}
IsSourceWayOver g src from to link n (w ∷ []) =
    (station_at (network_ran n w.waits).1 (w.place).router ≡ Some (w.place).station) × CanTakeSource from to link w.place
IsSourceWayOver g src from to link n (w ∷ v ∷ ws) =
    (station_at (network_ran n w.waits).1 (w.place).router ≡ Some (w.place).station) × CanTakeSource from to link w.place
    × CanGoOnToSource g src w.place
    × ((k : ℕ) → frame_at (network_ran n w.waits).1 k ≡ Some (join_source_packet g src from to link)
    → IsSourceWayOver g src (up_address w.place) ((w.place).next).address.bits (w.place).next_link
    (delivered (network_ran n w.waits).1 w.place k) (v ∷ ws))

-- ---- the routers of the way after a Join(S,G)

-- the router took the Join(S,G)
pub record HasTakenSource (n : Network) (g src : ℕ) (p : Place) : Type 0 where
  pub state : State
  pub stands : station_at n p.router ≡ Some (record p.station { state = state })
  pub takes : TakesSource (state_of p) state p.down g src
      (join_value (my_address (state_of p) p.down) g (entry EntryKind.Source src) [])

-- The router takes the Join(S,G) by the delivery of a frame, and what is asked of the rest holds after it.
pub record TakesSourceAt (m : Network) (g src from to link : ℕ) (p : Place) (Rest : Network → Type 0) : Type 0 where
  pub number : ℕ
  pub is : frame_at m number ≡ Some (join_source_packet g src from to link)
  pub taken : HasTakenSource (delivered m p number) g src p
  pub rest : Rest (delivered m p number)

-- A Join(S,G) climbs a way, each router taking it at its stop.
abbrev pub IsSourceClimbedOver : (g src from to link : ℕ) → Network → List Stop → Type 0
IsSourceClimbedOver g src from to link n [] = Unit {0}
IsSourceClimbedOver g src from to link n (w ∷ ws) =
    TakesSourceAt (network_ran n w.waits).1 g src from to link w.place
    (λ m. IsSourceClimbedOver g src (up_address w.place) ((w.place).next).address.bits (w.place).next_link m ws)

-- A Join(S,G) climbs the way to its source with any moves of the network between its deliveries.
abbrev pub SourceJoinClimbsOver : Type 0
SourceJoinClimbsOver = (n : Network) (g src from to link k : ℕ) (ws : List Stop)
    → IsSource g src → IsSourceWayOver g src from to link n ws → frame_at n k ≡ Some (join_source_packet g src from to link)
    → IsSourceClimbedOver g src from to link n ws
