-- A packet comes down a way, from the RP's side to the link where it was requested.
use Rattle.std.{specs.Prelude.{List, Ok, Some, [], false, length, slice_get, true, ℕ, ◌+◌, ◌<◌, ◌==◌, ◌∷◌, ◌≡◌, ◌≤◌, ◌⊎◌}}
use Rattle.pim_ip.{specs.Ipv4.{Packet, frame_limit, ipv4_reading, is_link_local, is_multicast, protocol_igmp}}
use Rattle.pim_model.{specs.{Full.source_is_full, Network.{Move, Network, network_ran, station_at}, Sets.spt_bit, State.{iface_count, is_own, is_up}, Unicast.is_rpf_interface_rp}}
use Rattle.law_streams.{specs.{Served.{IsMember, IsServed}, Ways.{AreApart, AreDeliveries, IsNotAmong, IsOnLink, Place, StandIn, state_of, up_iface}}}

-- A packet of (S,G) was sent on a link, with this payload and this TTL.
pub record IsCarried (n : Network) (g src link : ℕ) (payload : List ℕ) (lives : ℕ) : Type 0 where
  pub bytes : List ℕ
  pub packet : Packet
  pub on_link : IsOnLink n link bytes
  pub reads : ipv4_reading bytes ≡ Ok packet
  pub fits : length bytes ≤ frame_limit
  pub group : packet.destination ≡ g
  pub source : packet.source ≡ src
  pub is_data : (packet.protocol == protocol_igmp) ≡ false
  pub same : packet.payload ≡ payload
  pub time_to_live : packet.time_to_live ≡ lives

-- The router forwards a packet of (S,G) from its way to the RP to a link: the packet is on the shared tree, SPTbit
-- isn't set, there is room for the source's fact, and on the link a router joined the group, or a host wants it.
pub record PassesOn (g src link : ℕ) (p : Place) : Type 0 where
  pub configured : up_iface p < iface_count (state_of p)
  pub is_up : is_up (state_of p) (up_iface p) ≡ true
  pub foreign : is_own (state_of p) src ≡ false
  pub on_tree : is_rpf_interface_rp (state_of p) g (up_iface p) ≡ true
  pub unset : spt_bit (state_of p) g src ≡ false
  pub room : source_is_full (state_of p) g src ≡ false
  pub wanted : IsServed (state_of p) g src p.down ⊎ IsMember (state_of p) g src p.down
  pub down_linked : slice_get (p.station).links p.down ≡ Some link
  pub up_linked : slice_get (p.station).links (up_iface p) ≡ Some p.next_link
  pub on : (p.down == up_iface p) ≡ false

-- Each router of a way forwards packets of (S,G), from the link where they were requested up to the link to the last
-- router's next hop.
abbrev pub IsChannel : (g src link : ℕ) → List Place → Type 0
IsChannel g src link [] = Unit {0}
IsChannel g src link (p ∷ ps) = PassesOn g src link p × IsChannel g src p.next_link ps

-- The link at the upper end of a way.
abbrev pub top_link : ℕ → List Place → ℕ
top_link link [] = link
top_link link (p ∷ ps) = top_link p.next_link ps

-- A frame is a new one where a way has any router: none of the frames that were sent before.
abbrev pub IsLaterFrame : Network → ℕ → List Place → Type 0
IsLaterFrame n number [] = Unit {0}
IsLaterFrame n number (p ∷ ps) = length n.frames < number

-- Deliveries, one for each router, after which the packet is on the lower link, with a TTL lower by one for each
-- router.
pub record IsFlowed (n : Network) (g src link : ℕ) (payload : List ℕ) (lives : ℕ) (ps : List Place) : Type 0 where
  pub moves : List Move
  pub deliveries : AreDeliveries moves
  pub one_each : length moves ≡ length ps
  pub arrived : IsCarried (network_ran n moves).1 g src link payload lives
  pub new : IsLaterFrame n (arrived.on_link).number ps
  pub grows : length n.frames ≤ length ((network_ran n moves).1).frames
  pub others : (r : ℕ) → IsNotAmong r ps → station_at (network_ran n moves).1 r ≡ station_at n r

-- A packet of (S,G) on the upper link of a way comes down to the lower one, by deliveries with nothing in between.
abbrev pub DataFlows : Type 0
DataFlows = (n : Network) (g src link lives : ℕ) (payload : List ℕ) (ps : List Place)
    → is_multicast g ≡ true → is_link_local g ≡ false → 0 < lives
    → IsChannel g src link ps → StandIn n ps → AreApart ps
    → IsCarried n g src (top_link link ps) payload (lives + length ps)
    → IsFlowed n g src link payload lives ps
