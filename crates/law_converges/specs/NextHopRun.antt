-- A router turns from one next hop to another, which takes over; computed by the kernel.
use Rattle.std.{specs.Prelude.{List, Some, [], map, ◌∷◌, ◌≡◌}}
use Rattle.pim_ip.{specs.Ipv4.{all_pim_routers, pim_packet_text}}
use Rattle.pim_types.{specs.declared.{config.{Config.Config, Route.Route}, event.Event.Event}}
use Rattle.pim_wire.{specs.{JoinPrunes.join_prune_text, declared.join_prune.EntryKind.EntryKind}}
use Rattle.pim_model.{specs.{Messages.entry, Network.{At, Deliver, Move, Network, Sent, Station, frame_at, moved}, Tables.hop_at}}
use Rattle.pim_runs.{specs.{Base.{interface, prefix, route_by}, InTime.joined, ServedChain.{asked_group, first, hello_from, report, root, second, station}, Words.{address, frame, routes_to, up}}}
use Rattle.law_streams.{specs.InTimeJoins.{Pair, frame_of}}
use Rattle.law_converges.{specs.NextHops.{CanTakeOver, HoldsNow, IsOnItsWay, TurnsBy}}

-- the first router of the chain with one more interface, on link 5, and another router there that is on the RP's link too
abbrev pub turning : Config
turning = record first {
  interfaces = interface (address 10 0 3 1) ∷ interface (address 10 0 1 1) ∷ interface (address 10 0 5 1) ∷ [];
}

abbrev pub other : Config
other = record second { interfaces = interface (address 10 0 5 2) ∷ interface (address 10 0 2 3) ∷ [] }

-- a host asks while the route to the RP leads over the chain's second router
abbrev pub turning_events : List Event
turning_events =
    up 7 0 ∷ up 7 1 ∷ up 7 2 ∷ frame 1 (hello_from (address 10 0 1 2)) ∷ frame 2 (hello_from (address 10 0 5 2)) ∷ report ∷ []

abbrev pub other_events : List Event
other_events = up 7 0 ∷ up 7 1 ∷ frame 0 (hello_from (address 10 0 5 1)) ∷ frame 1 (hello_from root) ∷ []

abbrev pub other_station : Station
other_station = station (5 ∷ 2 ∷ []) other other_events

abbrev pub two : Network
two = record { stations = station (3 ∷ 1 ∷ 5 ∷ []) turning turning_events ∷ other_station ∷ []; frames = [] }

abbrev pub pair : Pair
pair = record { lower = 0; upper = 1; link = 5; hop = hop_at 2 (address 10 0 5 2); from = address 10 0 5 1; down = 0 }

-- the route to the RP comes to lead over the other one
abbrev pub over_other : List Route
over_other = route_by 2 (address 10 0 5 2) (prefix (address 10 0 2 0) 24) ∷ []

abbrev pub turn : Move
turn = At 0 (routes_to over_other)

abbrev pub RouterTurns : Type 0
RouterTurns = TurnsBy joined asked_group pair two turn

-- a Prune of the group to the old next hop, on link 1
abbrev pub prune : Sent
prune = record {
  link = Some 1;
  bytes = pim_packet_text 1 (address 10 0 1 1) all_pim_routers
      (join_prune_text (address 10 0 1 2) asked_group [] (entry EntryKind.Star root ∷ []));
}

-- By that move there leave an owed Hello and the Join on link 5, and the Prune. The other one can take the Join, and holds
-- the group by its delivery.
abbrev pub OtherTakesOver : Type 0
OtherTakesOver =
    IsOnItsWay joined asked_group pair two (moved two turn).1
    × (map (λ (f : Sent). f.link) ((moved two turn).1).frames ≡ Some 5 ∷ Some 5 ∷ Some 1 ∷ [])
    × (frame_at (moved two turn).1 2 ≡ Some (frame_of joined asked_group pair []))
    × (frame_at (moved two turn).1 3 ≡ Some prune)
    × CanTakeOver joined asked_group pair [] other_station
    × HoldsNow joined asked_group pair other_station (moved (moved two turn).1 (Deliver 1 0 2 7)).1
