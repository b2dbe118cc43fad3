-- A Join climbs a way with any time, and any other moves, between its deliveries.
use Rattle.std.{specs.Prelude.{List, Some, [], false, true, ℕ, ◌<◌, ◌==◌, ◌&&◌, ◌∷◌, ◌≡◌, not}}
use Rattle.pim_wire.{specs.declared.join_prune.EntryKind.EntryKind}
use Rattle.pim_model.{specs.{Full.passes_limit, Messages.entry, Network.{Deliver, Move, Network, Sent, frame_at, moved, network_ran, station_at}, Sets.{assert_source, is_loser, spt_bit}, State.{iface_count, is_own, is_up}, Unicast.{is_rpf_interface, is_rpf_interface_rp}}}
use Rattle.law_settled.{specs.Ready.IsSettled}
use Rattle.law_streams.{specs.{Joins.join_packet, HostsServed.became, Ways.{CanGoOn, CanTake, HasTaken, IsGroup, Place, state_of, up_address, up_iface}, Passing.{Passes, Receiver, Tree}}}

-- A frame that was sent stays in the network, whatever is done there.
abbrev pub FramesStay : Type 0
FramesStay = (n : Network) (ms : List Move) (k : ℕ) (f : Sent) → frame_at n k ≡ Some f
    → frame_at (network_ran n ms).1 k ≡ Some f

-- What is done in the network before the Join comes to a router, and the router in its state then.
pub record Stop : Type 0 where
  pub waits : List Move
  pub place : Place

-- the frame of a Join(*,G) on a link
abbrev pub join_frame : (g rp from to link : ℕ) → Sent
join_frame g rp from to link =
    record { link = Some link; bytes = join_packet from to g (entry EntryKind.Star rp) [] }

-- the network after the frame of a number is delivered to the router
abbrev pub delivered : Network → Place → ℕ → Network
delivered m p k = (moved m (Deliver p.router p.down k p.draw)).1

-- Each router can take the Join when it comes, and each but the last sends its own to the next.
abbrev pub IsWayOver : (g rp from to link : ℕ) → Network → List Stop → Type 0
IsWayOver g rp from to link n [] = Unit {0}
IsWayOver g rp from to link n (w ∷ []) =
    (station_at (network_ran n w.waits).1 (w.place).router ≡ Some (w.place).station) × CanTake g rp from to link w.place
IsWayOver g rp from to link n (w ∷ v ∷ ws) =
    (station_at (network_ran n w.waits).1 (w.place).router ≡ Some (w.place).station) × CanTake g rp from to link w.place
    × CanGoOn g w.place
    × ((k : ℕ) → frame_at (network_ran n w.waits).1 k ≡ Some (join_frame g rp from to link)
    → IsWayOver g rp (up_address w.place) ((w.place).next).address.bits (w.place).next_link
    (delivered (network_ran n w.waits).1 w.place k) (v ∷ ws))

-- The first router of a way takes the Join by the delivery of a frame, and the rest of the way follows.
pub record TakesAt (m : Network) (g rp from to link : ℕ) (p : Place) (Rest : Network → Type 0) : Type 0 where
  pub number : ℕ
  pub is : frame_at m number ≡ Some (join_frame g rp from to link)
  pub taken : HasTaken (delivered m p number) g rp p
  pub rest : Rest (delivered m p number)

-- A Join(*,G) climbs a way, each router taking it at its stop.
abbrev pub IsClimbedOver : (g rp from to link : ℕ) → Network → List Stop → Type 0
IsClimbedOver g rp from to link n [] = Unit {0}
IsClimbedOver g rp from to link n (w ∷ ws) =
    TakesAt (network_ran n w.waits).1 g rp from to link w.place
    (λ m. IsClimbedOver g rp (up_address w.place) ((w.place).next).address.bits (w.place).next_link m ws)

-- A Join(*,G) climbs a way with any moves of the network between its deliveries.
abbrev pub JoinClimbsOver : Type 0
JoinClimbsOver = (n : Network) (g rp from to link k : ℕ) (ws : List Stop)
    → IsGroup g rp → IsWayOver g rp from to link n ws → frame_at n k ≡ Some (join_frame g rp from to link)
    → IsClimbedOver g rp from to link n ws

-- ---- from the Join on the router passes the stream

-- A router that takes a Join(*,G) can forward packets of the source: they come in on its way to the RP, it lost no
-- assert of the source where the Join comes, and it has room for two facts.
pub record CanStream (g src : ℕ) (p : Place) : Type 0 where
  pub settled : IsSettled (state_of p)
  pub configured : up_iface p < iface_count (state_of p)
  pub is_up : is_up (state_of p) (up_iface p) ≡ true
  pub foreign : is_own (state_of p) src ≡ false
  pub on_tree : is_rpf_interface_rp (state_of p) g (up_iface p) ≡ true
  pub source_too : (spt_bit (state_of p) g src && not (is_rpf_interface (state_of p) src (up_iface p))) ≡ false
  pub unlost : is_loser (assert_source (state_of p) g src p.down) ≡ false
  pub room : passes_limit (state_of p) 2 ≡ false
  pub on : (p.down == up_iface p) ≡ false

-- A router that can forward packets of the source passes its stream after the Join that it takes.
abbrev pub JoinBeginsStream : Type 0
JoinBeginsStream = (g rp from to link src k : ℕ) (p : Place) (m : Network) → IsGroup g rp
    → CanTake g rp from to link p → CanStream g src p
    → station_at m p.router ≡ Some p.station → frame_at m k ≡ Some (join_frame g rp from to link)
    → (state : _) → station_at (delivered m p k) p.router ≡ Some (became p state).station
    → Passes Tree.Shared Receiver.Router state g src (up_iface p) p.down
