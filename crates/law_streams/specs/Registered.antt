-- A packet of a source comes to the receivers of the RP's tree by way of the DR's Register.
use Rattle.std.{specs.Prelude.{List, None, Ok, Some, false, length, slice_get, true, ℕ, ◌+◌, ◌<◌, ◌==◌, ◌^◌, ◌∷◌, ◌≡◌, ◌≤◌}}
use Rattle.pim_ip.{specs.Ipv4.{Packet, copy_text, frame_limit, ipv4_reading, is_link_local, is_multicast, is_unicast, pim_packet_text, protocol_igmp}}
use Rattle.pim_types.{specs.declared.event.Event.Event}
use Rattle.pim_wire.{specs.Registers.register_text}
use Rattle.pim_model.{specs.{Full.source_is_full, Network.{At, DeliverUnicast, Network, frame_at, moved, station_at}, Registers.registering_address, Sets.spt_bit, State.{State, is_own}, Unicast.rp_of, Writing.unicast_time_to_live}}
use Rattle.law_streams.{specs.{Flows.{IsFlowed, top_link}, Roots.IsRegister, Ways.{AreApart, IsNotAmong, Place, StandIn, state_of}, Passing.{Receiver, Tree}, StreamRoots.Sends, Sources.{IsSent, Registers}, Streams.IsStreamed}}

-- the bytes of the Register round a packet, with the TTL one lower, from an address to the RP
abbrev pub register_bytes : (from rp : ℕ) → Packet → List ℕ
register_bytes from rp p = pim_packet_text unicast_time_to_live from rp (register_text (copy_text p))

-- a packet that a link carries, from a host to a group
pub record IsCarriedPacket (bytes : List ℕ) (p : Packet) (g src : ℕ) (payload : List ℕ) (lives : ℕ) : Type 0 where
  pub reads : ipv4_reading bytes ≡ Ok p
  pub fits : length bytes ≤ frame_limit
  pub group : p.destination ≡ g
  pub source : p.source ≡ src
  pub is_data : (p.protocol == protocol_igmp) ≡ false
  pub same : p.payload ≡ payload
  pub time_to_live : p.time_to_live ≡ lives + 2

-- the addresses of a Register are those of hosts, and what is in it goes from a host to a group
pub record AreAddresses (g src from rp : ℕ) : Type 0 where
  pub multicast : is_multicast g ≡ true
  pub host : is_unicast src ≡ true
  pub from_host : is_unicast from ≡ true
  pub to_fits : rp < 2 ^ 32

-- the bytes of a Register are read as one round its packet, with a TTL one lower
abbrev pub RegisterIsRead : Type 0
RegisterIsRead = (from rp g src lives : ℕ) (bytes payload : List ℕ) (p : Packet) → AreAddresses g src from rp
    → IsCarriedPacket bytes p g src payload lives → IsRegister g src rp (register_bytes from rp p) payload lives

-- ---- from the DR to the receivers

-- the RP of the group, which has no SPTbit of the source, and a fact of it or room for one
pub record CanDecapsulate (g rp src : ℕ) (t : State) : Type 0 where
  pub own : is_own t rp ≡ true
  pub rp_known : rp_of t g ≡ Some rp
  pub unset : spt_bit t g src ≡ false
  pub room : source_is_full t g src ≡ false

-- the DR's event sends a frame that can be delivered to the RP, and then the packet comes down to who asked
pub record IsRegistered (n : Network) (g rp src link : ℕ) (payload : List ℕ) (lives : ℕ) (dr root : Place) (e : Event) (draw : ℕ) (ps : List Place) : Type 0 where
  pub packet : Packet
  pub number : ℕ
  pub is_sent : frame_at (moved n (At dr.router e)).1 number
      ≡ Some (record { link = None; bytes = register_bytes (registering_address (state_of dr) src) rp packet })
  pub flows : IsFlowed (moved (moved n (At dr.router e)).1 (DeliverUnicast root.router number draw)).1 g src link payload lives ps

-- routers of a way that pass the stream, and the RP above them that sends: each packet of the source that its DR takes
-- comes down to who asked, by the delivery of the DR's Register and one for each router
abbrev pub RegisteredIsServed : Type 0
RegisteredIsServed = (tree : ℕ → Tree) (by : ℕ → Receiver) (n : Network) (g rp src link up lives draw : ℕ)
    (payload : List ℕ) (dr root : Place) (ps : List Place) (e : Event)
    → is_link_local g ≡ false → 0 < lives
    → AreAddresses g src (registering_address (state_of dr) src) rp
    → Sends (state_of root) g src root.down → slice_get (root.station).links root.down ≡ Some (top_link link ps)
    → IsStreamed tree by g src link ps → StandIn n (root ∷ ps) → AreApart (root ∷ ps)
    → station_at n dr.router ≡ Some dr.station → IsNotAmong dr.router (root ∷ ps)
    → Registers (state_of dr) g src up rp → IsSent (state_of dr) e g src up payload (lives + length ps + 1)
    → CanDecapsulate g rp src (state_of root)
    → IsRegistered n g rp src link payload lives dr root e draw ps
