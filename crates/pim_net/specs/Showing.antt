-- What a network shows: the network of the specification, and its wire.
use Rattle.std.{specs.{Option.option_map_or, Prelude.{List, Option, Some, [], map, option_and_then, option_map, set, slice_get, suc, zero, ℕ, ◌++◌, ◌∷◌}}}
use Rattle.pim_types.{specs.declared.{config.Config.Config, event.{Event.Event, EventKind.EventKind}, outcome.Emission.Emission}}
use Rattle.pim_model.{specs.{Network.{Network, Sent, Station, sent_by, station_at}, State.State}}
pub use Rattle.pim_router.{specs.Standing.Standing}
use Rattle.pim_net.{specs.declared.{node.Node.Node, moves.Move.Move}}
use Rattle.pim_model.specs.Network as written

-- how a router of the network stands, for those who read it

-- The list of all values, if each is there.
unfoldable pub all_of : {A : Type 0} → List (Option A) → Option (List A)
all_of [] = Some []
all_of (x ∷ xs) = option_and_then (λ y. option_map (λ ys. y ∷ ys) (all_of xs)) x

-- a node as its configuration and its links
abbrev pub node_of : Node → Config × List ℕ
node_of n = (n.config, n.links)

-- a move of the code as one of the specification
abbrev pub move_of : Move → written.Move
move_of (Move.Event router event) = written.At router event
move_of (Move.Deliver router iface frame draw) = written.Deliver router iface.number frame draw
move_of (Move.DeliverUnicast router frame draw) = written.DeliverUnicast router frame draw

-- The events of a packet that comes to an interface, and to a router's own address.
abbrev pub brought_on : ℕ → ℕ → List ℕ → Event
brought_on i draw bytes = record { draw = draw; kind = EventKind.Frame (record { number = i }) bytes }

-- the event by which a unicast packet comes to a router
abbrev pub brought_to : ℕ → List ℕ → Event
brought_to draw bytes = record { draw = draw; kind = EventKind.Unicast bytes }

-- The network (none once an allocation failed), the first port of each router, and the wire.
pub record Wired (W : Type 0) : Type 0 where
  pub network : Option Network
  pub ports : List ℕ
  pub wire : W

-- The network with a router in another state.
abbrev pub with_state_at : Network → ℕ → State → Network
with_state_at n r s =
    option_map_or (λ (st : Station). record n { stations = set n.stations r (record st { state = s }) }) (station_at n r) n

-- The network with other bytes in the place of those of a frame, by its number from 1.
abbrev pub with_bytes_at : Network → ℕ → List ℕ → Network
with_bytes_at n zero bytes = n
with_bytes_at n (suc k) bytes =
    option_map_or (λ (f : Sent). record n { frames = set n.frames k (record f { bytes = bytes }) })
    (slice_get n.frames k) n

-- The network with packets of a router at the end of the frames.
abbrev pub with_sent_at : Network → ℕ → List Emission → Network
with_sent_at n r sent =
    option_map_or (λ (st : Station). record n { frames = n.frames ++ map (sent_by st.links) sent }) (station_at n r) n

-- the state of a router, if there is such a router
abbrev pub shown_state : Option Network → ℕ → Option State
shown_state shown r = option_and_then (λ n. option_map (λ (s : Station). s.state) (station_at n r)) shown
