-- Where a packet that goes on was read: the bytes of the event.
use Rattle.std.{specs.Prelude.{List, Ok, Some, ℕ, ◌≡◌}}
use Rattle.pim_ip.{specs.Ipv4.{Packet, ipv4_reading}}
use Rattle.pim_types.{specs.declared.{config.IfaceId.IfaceId, event.{Event.Event, EventKind.EventKind}}}
use Rattle.pim_wire.{specs.{Messages.pim_reading, Values.Encapsulated, declared.view.PimView.PimView}}
use Rattle.pim_model.{specs.{Cause.{done_as, packet_in}, State.State}}
use Rattle.law_streams.{specs.Copies.happens}

-- The event's bytes are read as the packet that came on a link, or as a Register to the router with the packet inside.
pub data BringsPacket (e : Event) (p : Packet) : Type 0 where
  OnLink : (i : IfaceId) (bytes : List ℕ) → e.kind ≡ EventKind.Frame i bytes → ipv4_reading bytes ≡ Ok p → BringsPacket e p
  InRegister : (bytes : List ℕ) (outer : Packet) → e.kind ≡ EventKind.Unicast bytes → ipv4_reading bytes ≡ Ok outer
      → pim_reading outer.payload ≡ Ok (PimView.Register (Encapsulated p)) → BringsPacket e p

-- The packet is the one that the event's bytes are read as, or the one inside the Register that they are read as.
abbrev pub PacketComesFromEvent : Type 0
PacketComesFromEvent = (s : State) (e : Event) (p : Packet) → packet_in (done_as (happens s e)) ≡ Some p → BringsPacket e p
