-- A router to which a source is connected: it puts the packets on their tree by itself, and as the DR registers them.
use Rattle.std.{specs.{List.Contains, Prelude.{List, Ok, Some, false, length, true, ℕ, ◌+◌, ◌==◌, ◌≡◌, ◌≤◌, ◌⊎◌}}}
use Rattle.pim_ip.{specs.Ipv4.{Packet, copy_text, frame_limit, ipv4_reading, protocol_igmp}}
use Rattle.pim_types.{specs.{Keys.source_key, declared.event.Event.Event}}
use Rattle.pim_wire.{specs.Registers.register_text}
use Rattle.pim_model.{specs.{declared.accepted.Accepted.Accepted, Cause.done_as, Neighbours.is_dr, Registers.registering_address, Sets.tunnel, State.{State, is_own}, Step.step, Tables.has_row, Unicast.{is_connected, is_rpf_interface, rp_of}, Writing.pim_to}}
use Rattle.law_streams.{specs.{Copies.happens, Served.Came, Roots.IsBrought, StreamRoots.Sends}}

-- the source is on the link of an interface
pub record IsConnectedAt (s : State) (src up : ℕ) : Type 0 where
  pub connected : is_connected s src ≡ true
  pub way : is_rpf_interface s src up ≡ true

-- An event brings a packet of (S,G) from the source's link, and the router takes it.
pub record IsSent (s : State) (e : Event) (g src up : ℕ) (payload : List ℕ) (lives : ℕ) : Type 0 where
  pub bytes : List ℕ
  pub packet : Packet
  pub reads : ipv4_reading bytes ≡ Ok packet
  pub fits : length bytes ≤ frame_limit
  pub group : packet.destination ≡ g
  pub source : packet.source ≡ src
  pub is_data : (packet.protocol == protocol_igmp) ≡ false
  pub same : packet.payload ≡ payload
  pub time_to_live : packet.time_to_live ≡ lives + 1
  pub done : done_as (happens s e) ≡ Some (Accepted.Data (record { number = up }) packet)

-- A router that sends the stream on a link, such as the RP, sends each packet of a directly connected source there,
-- without any Register.
abbrev pub ConnectedIsBrought : Type 0
ConnectedIsBrought = (s : State) (e : Event) (g src up down lives : ℕ) (payload : List ℕ)
    → IsConnectedAt s src up → Sends s g src down → (down == up) ≡ false → IsSent s e g src up payload lives
    → IsBrought s e g src down payload lives

-- ---- the DR

-- The router is the DR of the source's link, the RP is another router, and no Register-Stop suppresses Registers.
pub record Registers (s : State) (g src up rp : ℕ) : Type 0 where
  pub at : IsConnectedAt s src up
  pub dr : is_dr s up ≡ true
  pub rp_known : rp_of s g ≡ Some rp
  pub other : is_own s rp ≡ false
  pub unstopped : (has_row s.registers (source_key 0 g src) ≡ false) ⊎ (tunnel s g src ≡ true)

-- Each packet of a source that a DR registers (`Registers`), with a TTL above 1, leaves in a Register to the RP.
abbrev pub DrRegisters : Type 0
DrRegisters = (s : State) (e : Event) (p : Packet) (up rp : ℕ) → Registers s p.destination p.source up rp
    → Came s e (record { number = up }) p
    → Contains (step s e).emissions (pim_to (registering_address s p.source) rp (register_text (copy_text p)))
