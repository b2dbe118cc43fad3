-- An event that stands for a packet given only by its source and its group.
use Rattle.std.{specs.Prelude.{Bool, List, [], ℕ, ◌++◌, ◌≡◌}}
use Rattle.pim_ip.{specs.Ipv4.{Packet, header_text}}
use Rattle.pim_types.{specs.declared.{config.IfaceId.IfaceId, event.{Event.Event, EventKind.EventKind}}}
use Rattle.pim_model.{specs.{Sets.Set, State.State, Step.{Answered, step}, Writing.{copies_of, tunnel_of}}}
use Rattle.law_plane.{specs.OffloadLaws.IsData}

-- The protocol number of UDP.
abbrev pub protocol_udp : ℕ
protocol_udp = 17

-- A TTL with which no router forwards a packet.
abbrev pub last_time_to_live : ℕ
last_time_to_live = 1

-- a header without a payload
abbrev pub bare_text : ℕ → ℕ → List ℕ
bare_text g src = header_text [] last_time_to_live protocol_udp src g 0

-- The event by which a data plane reports a packet of a source to a group on an interface.
abbrev pub seen_event : ℕ → IfaceId → ℕ → ℕ → Event
seen_event w i g src = record { draw = w; kind = EventKind.Frame i (bare_text g src) }

-- All that a packet does, except for its copies on links and the Register around it.
pub record IsAllBut (packet : Packet) (seen whole : Answered) : Type 0 where
  pub answer : seen.answer ≡ whole.answer
  pub state_is : seen.state ≡ whole.state
  pub none : seen.copies ≡ 0
  pub at : State
  pub list : Set
  pub to_tunnel : Bool
  pub rest : whole.emissions ≡ seen.emissions ++ copies_of at packet list ++ tunnel_of at packet to_tunnel

-- Each frame that brings a packet of the source and the group on the interface does all that this event does.
abbrev pub SeenIsStepped : Type 0
SeenIsStepped = (s : State) (e : Event) (i : IfaceId) (bytes : List ℕ) (p : Packet) → e.kind ≡ EventKind.Frame i bytes
    → IsData s i bytes p → IsAllBut p (step s (seen_event e.draw i p.destination p.source)) (step s e)
