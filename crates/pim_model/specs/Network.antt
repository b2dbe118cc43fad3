-- Several routers, and the frames that they ever sent: no frame is taken out, so loss, repeats and any order of
-- delivery are lists of moves.
use Rattle.std.{specs.{List.list_all, Option.option_map_or, Prelude.{Bool, Err, List, None, Ok, Option, Result, Some, [], if◌then◌else◌, is_some, length, map, nat_le, option_and_then, option_map, set, slice_get, suc, zero, ℕ, ◌&&◌, ◌++◌, ◌==◌, ◌∷◌}}}
use Rattle.pim_ip.{specs.{Tests.{expect, ◌>>◌}, declared.refusal.Refusal.Refusal}}
use Rattle.pim_types.{specs.declared.{config.Config.Config, event.{Event.Event, EventKind.EventKind}, outcome.{Emission.Emission, Outcome.Outcome}}}
use Rattle.pim_model.{specs.{Limits.config_test, State.{State, opening}, Step.{Answered, outcome_of, step}, Tables.same_option}}

-- a frame with the link on which it was sent; none for a unicast
pub record Sent : Type 0 where
  pub link : Option ℕ
  pub bytes : List ℕ

-- a router with the link of each of its interfaces
pub record Station : Type 0 where
  pub links : List ℕ
  pub state : State

-- the routers, and all frames in the order in which they were sent
pub record Network : Type 0 where
  pub stations : List Station
  pub frames : List Sent

-- a new router with its links
abbrev pub station_of : Config × List ℕ → Station
station_of n = record { links = n.1; state = opening n.0 }

-- the first refusal of several configurations
unfoldable pub configs_test : List Config → Result (Unit {0}) Refusal
configs_test [] = Ok tt
configs_test (c ∷ cs) =
    let later : Result (Unit {0}) Refusal = configs_test cs in
    config_test c >> later

-- the most routers of a network
abbrev pub most_routers : ℕ
most_routers = 64

-- a configuration has a link for each of its interfaces
abbrev pub is_node : Config × List ℕ → Bool
is_node n = length n.1 == length (n.0).interfaces

-- configurations with their links, of which a network is made: not too many, each with a link for each interface, and
-- all accepted
unfoldable pub nodes_test : List (Config × List ℕ) → Result (Unit {0}) Refusal
nodes_test nodes =
    expect (nat_le (length nodes) most_routers && list_all is_node nodes) Refusal.BadScenario
    >> configs_test (map (λ n. n.0) nodes)

-- the network of configurations with their links, in which nothing was sent yet
unfoldable pub network : List (Config × List ℕ) → Network
network nodes = record { stations = map station_of nodes; frames = [] }

-- what can happen in a network
pub data Move : Type 0 where
  -- an event at a router
  At : ℕ → Event → Move
  -- a frame, counted from 1, on an interface of a router
  Deliver : ℕ → ℕ → ℕ → ℕ → Move
  -- a frame of any kind as a unicast to a router
  DeliverUnicast : ℕ → ℕ → ℕ → Move

-- a router, counted from 0
unfoldable pub station_at : Network → ℕ → Option Station
station_at n r = slice_get n.stations r

-- the frame of a number; there is none of number 0
unfoldable pub frame_at : Network → ℕ → Option Sent
frame_at n zero = None
frame_at n (suc k) = slice_get n.frames k

-- the interface is on the frame's link
abbrev pub is_on_frame_link : Station → ℕ → Sent → Bool
is_on_frame_link st i f = is_some f.link && same_option (slice_get st.links i) f.link

-- a frame that comes on an interface
abbrev pub frame_event : ℕ → ℕ → Sent → Event
frame_event i draw f = record { draw = draw; kind = EventKind.Frame (record { number = i }) f.bytes }

-- a frame that comes to one of the router's addresses
abbrev pub unicast_event : ℕ → Sent → Event
unicast_event draw f = record { draw = draw; kind = EventKind.Unicast f.bytes }

-- a router and the event at it that a move stands for; none where the move is refused
unfoldable pub event_of : Network → Move → Option (ℕ × Event)
event_of n (At r e) = option_map (λ st. (r, e)) (station_at n r)
event_of n (Deliver r i k draw) =
    option_and_then (λ st. option_and_then (λ (f : Sent).
    if is_on_frame_link st i f then Some (r, frame_event i draw f) else None) (frame_at n k)) (station_at n r)
event_of n (DeliverUnicast r k draw) =
    option_and_then (λ st. option_map (λ f. (r, unicast_event draw f)) (frame_at n k)) (station_at n r)

-- what a router sends, with the link on which it leaves
abbrev pub sent_by : List ℕ → Emission → Sent
sent_by links (Emission.Link i bytes) = record { link = slice_get links i.number; bytes = bytes }
sent_by links (Emission.Unicast destination bytes) = record { link = None; bytes = bytes }

-- an event at a router, and what it sends
unfoldable pub stepped : Network → ℕ → Event → Station → Outcome × Network
stepped n r e st =
    let a : Answered = step st.state e in (
      outcome_of a,
      record {
        stations = set n.stations r (record st { state = a.state });
        frames = n.frames ++ map (sent_by st.links) a.emissions;
      },
    )

-- the outcome of a move that names no such router, frame or interface
abbrev pub bad_move : Outcome
bad_move = record { answer = Err Refusal.BadMove; emissions = []; copies = 0 }

-- an event at a router, counted from 0
unfoldable pub moved_at : Network → ℕ × Event → Outcome × Network
moved_at n e = option_map_or (stepped n e.0 e.1) (station_at n e.0) (bad_move, n)

-- the outcome of a move, and the network after it
unfoldable pub moved : Network → Move → Outcome × Network
moved n m = option_map_or (moved_at n) (event_of n m) (bad_move, n)

-- the outcomes of moves, one after the other, and the network at the end
unfoldable pub network_ran : Network → List Move → List Outcome × Network
network_ran n [] = ([], n)
network_ran n (m ∷ ms) =
    let first : Outcome × Network = moved n m in
    let later : List Outcome × Network = network_ran first.1 ms in
    (first.0 ∷ later.0, later.1)
