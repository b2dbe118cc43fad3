-- What moves require of a wire, whichever it is, and what the network becomes by what the wire returns.
use Rattle.std.specs.{Option.option_map_or, Prelude.{Bool, IsSome, List, None, Option, Some, [], get_or, length, option_and_then, option_map, slice_get, take, ℕ, ◌+◌, ◌<◌, ◌≡◌, ◌∷◌}}
use Rattle.pim_types.{specs.declared.{config.IfaceId.IfaceId, event.{Event.Event, EventKind.EventKind}, outcome.Outcome.Outcome}}
use Rattle.pim_model.{specs.Network.{Network, Station, event_of, moved, moved_at, station_at}}
use Rattle.lab_parts.{specs.Carrying.IsCarried}
use Rattle.pim_net.{specs.{Showing.{brought_on, brought_to, move_of}, declared.moves.Move.Move}}

-- the bytes of the packet that an event brings
abbrev pub bytes_of_kind : EventKind → List ℕ
bytes_of_kind (EventKind.Frame iface bytes) = bytes
bytes_of_kind (EventKind.Unicast bytes) = bytes
bytes_of_kind _ = []

-- The bytes of the frame, where the move is a delivery that isn't refused.
unfoldable pub carried_packet : Network → Move → Option (List ℕ)
carried_packet n (Move.Event router event) = None
carried_packet n (Move.Deliver router iface frame draw) =
    option_map (λ (e : ℕ × Event). bytes_of_kind (e.1).kind) (event_of n (move_of (Move.Deliver router iface frame draw)))
carried_packet n (Move.DeliverUnicast router frame draw) =
    option_map (λ (e : ℕ × Event). bytes_of_kind (e.1).kind) (event_of n (move_of (Move.DeliverUnicast router frame draw)))

-- The bytes of a frame that comes to an interface of a router, or without one to an address of the router; none where that
-- would be refused.
abbrev pub fetched : Network → ℕ → Option IfaceId → ℕ → Option (List ℕ)
fetched n r (Some iface) frame = carried_packet n (Move.Deliver r iface frame 0)
fetched n r None frame = carried_packet n (Move.DeliverUnicast r frame 0)

-- The outcome and the network where these bytes come to the router.
abbrev pub moved_with : Network → Move → List ℕ → Outcome × Network
moved_with n (Move.Event router event) bytes = moved_at n (router, event)
moved_with n (Move.Deliver router iface frame draw) bytes = moved_at n (router, brought_on iface.number draw bytes)
moved_with n (Move.DeliverUnicast router frame draw) bytes = moved_at n (router, brought_to draw bytes)

-- the number of links of a router of a network
abbrev pub link_count : Network → ℕ → ℕ
link_count n r = option_map_or (λ (s : Station). length s.links) (station_at n r) 0

-- The port to which a delivery goes, by the first port of each router.
abbrev pub port_of : List ℕ → Network → Move → ℕ
port_of ports n (Move.Event router event) = get_or ports router 0
port_of ports n (Move.Deliver router iface frame draw) = get_or ports router 0 + iface.number
port_of ports n (Move.DeliverUnicast router frame draw) = get_or ports router 0 + link_count n router

-- Two steps, with the network and the wire between them.
pub record AreBoth {W : Type 0} (First Later : Network → W → Type 0) : Type 0 where
  pub network : Network
  pub wire : W
  pub first : First network wire
  pub later : Later network wire

module _ {W : Type 0} (is_faithful : Bool) (sends : W → ℕ → List ℕ → W → Type 0) (gives : W → ℕ → ℕ → List ℕ → W → Type 0) where
  module _ (ports : List ℕ) where
    -- A delivery of a packet: what the wire returns comes to the router.
    pub record IsDelivery (n : Network) (before : W) (m : Move) (packet : List ℕ) (o : Outcome) (next : Network) (after : W)
        : Type 0 where
      pub given : List ℕ
      pub carried : IsCarried is_faithful sends gives before (port_of ports n m) packet given after
      pub moved_is : (o, next) ≡ moved_with n m given

    -- A move that carries nothing does what the specification's move does, and makes no call of the wire; any other is
    -- a delivery.
    abbrev pub IsMoveOf : Option (List ℕ) → Network → W → Move → Outcome → Network → W → Type 0
    IsMoveOf None n before m o next after = ((o, next) ≡ moved n (move_of m)) × (after ≡ before)
    IsMoveOf (Some packet) n before m o next after = IsDelivery n before m packet o next after

    -- A move over a wire does what the network does, with the packet that the wire gives.
    abbrev pub IsMove : Network → W → Move → Outcome → Network → W → Type 0
    IsMove n before m o next after = IsMoveOf (carried_packet n m) n before m o next after

    -- The moves are done one after another.
    unfoldable pub AreMoves : Network → W → List Move → List Outcome → Network → W → Type 0
    AreMoves n before [] [] last after = (last ≡ n) × (after ≡ before)
    AreMoves n before (m ∷ ms) (o ∷ os) last after =
        AreBoth (IsMove n before m o) (λ next wire. AreMoves next wire ms os last after)
    AreMoves n before [] (o ∷ os) last after = ⊥
    AreMoves n before (m ∷ ms) [] last after = ⊥

    -- A move of a network that may have failed afterwards.
    pub record MovesTo (n : Network) (before : W) (m : Move) (o : Outcome) (last : Option Network) (after : W) : Type 0 where
      pub network : Network
      pub is : last ≡ Some network
      pub move : IsMove n before m o network after

    pub record HasMoved (n : Network) (before : W) (ms : List Move) (os : List Outcome) (last : Option Network) (after : W)
        : Type 0 where
      pub network : Network
      pub is : last ≡ Some network
      pub moves : AreMoves n before ms os network after

    -- Some of the moves were done, and not all: the next is a delivery that isn't refused.
    pub record IsPartWay (n : Network) (before : W) (ms : List Move) (last : Option Network) : Type 0 where
      pub count : ℕ
      pub below : count < length ms
      pub outcomes : List Outcome
      pub wire : W
      pub done : HasMoved n before (take count ms) outcomes last wire
      pub next : IsSome (option_and_then (carried_packet done.network) (slice_get ms count))
