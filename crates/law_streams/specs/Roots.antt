-- Where a packet comes to the tree: at a router that took the Join, on a tree of the router's, or in a Register at the
-- RP.
use Rattle.std.{specs.Prelude.{List, Ok, Some, false, length, slice_get, true, ℕ, ◌+◌, ◌<◌, ◌==◌, ◌≡◌, ◌≤◌}}
use Rattle.pim_ip.{specs.Ipv4.{Packet, frame_limit, ipv4_reading, is_link_local, protocol_igmp, protocol_pim}}
use Rattle.pim_types.{specs.{declared.{config.IfaceId.IfaceId, event.{Event.Event, EventKind.EventKind}}, Keys.source_key}}
use Rattle.pim_wire.{specs.{Messages.pim_reading, Values.Encapsulated, declared.view.PimView.PimView}}
use Rattle.pim_model.{specs.{declared.accepted.Accepted.Accepted, Cause.done_as, Full.passes_limit, Network.{At, Network, moved}, Sets.{assert_source, is_loser, spt_bit}, State.{State, iface_count, is_own}, Tables.has_row, Unicast.{is_rp, rp_of}}}
use Rattle.law_settled.{specs.Ready.IsSettled}
use Rattle.law_streams.{specs.{Copies.happens, Served.{OnATree, renewed}, Flows.IsCarried, Ways.{HasTaken, Place, state_of}}}

-- how the packet comes
pub data ArrivesFor (s : State) (e : Event) (p : Packet) (j : ℕ) : Type 0 where
  -- on a link, on the shared tree or on the source's, and not on the link to which it is to go on
  OnTree : (i : IfaceId) → done_as (happens s e) ≡ Some (Accepted.Data i p)
      → OnATree (renewed s p.destination p.source i.number) p.destination p.source i.number → (j == i.number) ≡ false
      → ArrivesFor s e p j
  -- in a Register to the RP, which doesn't have it on the source's tree yet
  InRegister : (outer : Packet) → done_as (happens s e) ≡ Some (Accepted.Register outer (Encapsulated p))
      → is_rp s p.destination outer.destination ≡ true → spt_bit s p.destination p.source ≡ false → ArrivesFor s e p j

-- a packet of (S,G) that was read from bytes which a link carries
pub record IsBrought (s : State) (e : Event) (g src j : ℕ) (payload : List ℕ) (lives : ℕ) : Type 0 where
  pub bytes : List ℕ
  pub packet : Packet
  pub reads : ipv4_reading bytes ≡ Ok packet
  pub fits : length bytes ≤ frame_limit
  pub group : packet.destination ≡ g
  pub source : packet.source ≡ src
  pub is_data : (packet.protocol == protocol_igmp) ≡ false
  pub same : packet.payload ≡ payload
  pub time_to_live : packet.time_to_live ≡ lives + 1
  pub comes : ArrivesFor s e packet j

-- An event of the router sends the packet on the link on which it took the Join, where it lost no assert of the source.
abbrev pub RootSends : Type 0
RootSends = (n : Network) (g rp src link lives : ℕ) (payload : List ℕ) (p : Place) (e : Event) (h : HasTaken n g rp p)
    → p.down < iface_count h.state → is_loser (assert_source h.state g src p.down) ≡ false
    → slice_get (p.station).links p.down ≡ Some link → 0 < lives
    → IsBrought h.state e g src p.down payload lives
    → IsCarried (moved n (At p.router e)).1 g src link payload lives

-- ---- a Register

-- Bytes for the router's own address that are read as a Register around a packet of (S,G).
pub record IsRegister (g src to : ℕ) (bytes payload : List ℕ) (lives : ℕ) : Type 0 where
  pub outer : Packet
  pub reads : ipv4_reading bytes ≡ Ok outer
  pub of_pim : (outer.protocol == protocol_pim) ≡ true
  pub destination : outer.destination ≡ to
  pub inner : List ℕ
  pub packet : Packet
  pub is : pim_reading outer.payload ≡ Ok (PimView.Register (Encapsulated packet))
  pub inner_reads : ipv4_reading inner ≡ Ok packet
  pub fits : length inner ≤ frame_limit
  pub group : packet.destination ≡ g
  pub source : packet.source ≡ src
  pub is_data : (packet.protocol == protocol_igmp) ≡ false
  pub same : packet.payload ≡ payload
  pub time_to_live : packet.time_to_live ≡ lives + 1

-- The router is the RP of the group, it knows nothing of the source, and it has room for two facts.
pub record CanRegister (g rp src : ℕ) (s : State) : Type 0 where
  pub settled : IsSettled s
  pub own : is_own s rp ≡ true
  pub rp_known : rp_of s g ≡ Some rp
  pub unknown : has_row s.sources (source_key 0 g src) ≡ false
  pub room : passes_limit s 2 ≡ false

-- After the RP took the Join, each Register to it brings its packet to the tree.
abbrev pub RegisterIsBrought : Type 0
RegisterIsBrought = (n : Network) (g rp src draw lives : ℕ) (bytes payload : List ℕ) (p : Place) (h : HasTaken n g rp p)
    → is_link_local g ≡ false → CanRegister g rp src (state_of p) → IsRegister g src rp bytes payload lives
    → IsBrought h.state (record { draw = draw; kind = EventKind.Unicast bytes }) g src p.down payload lives
