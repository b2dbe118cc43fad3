-- Nothing flows unasked in a network: at each of its routers, among the events that came to it.
use Rattle.std.{specs.Prelude.{Bool, List, None, Ok, Option, Some, [], false, if◌then◌else◌, slice_get, ℕ, ◌++◌, ◌==◌, ◌≡◌, ◌∷◌}}
use Rattle.pim_types.{specs.declared.{config.Config.Config, event.Event.Event, outcome.Outcome.Outcome}}
use Rattle.pim_model.{specs.{Cause.OutcomesAreAsked, Network.{Move, Network, event_of, moved, network, network_ran, nodes_test}, State.opening}}

-- the event is one at the router
abbrev pub is_at : ℕ → Option (ℕ × Event) → Bool
is_at r None = false
is_at r (Some e) = e.0 == r

-- an event at some router as a list, if that router is the given one
abbrev pub event_at : ℕ → Option (ℕ × Event) → List Event
event_at r None = []
event_at r (Some e) = if e.0 == r then e.1 ∷ [] else []

-- The events that come to a router in moves from a network on: its own events, and the events that the deliveries stand
-- for.
unfoldable pub events_in : ℕ → Network → List Move → List Event
events_in r n [] = []
events_in r n (m ∷ ms) =
    let later : List Event = events_in r (moved n m).1 ms in
    event_at r (event_of n m) ++ later

-- The outcomes of moves that are of these events at a router.
unfoldable pub outcomes_in : ℕ → Network → List Move → List Outcome → List Outcome
outcomes_in r n (m ∷ ms) (o ∷ os) =
    let later : List Outcome = outcomes_in r (moved n m).1 ms os in
    (if is_at r (event_of n m) then o ∷ [] else []) ++ later
outcomes_in r n ms os = []

-- In the outcomes of moves from a new network on, each copy of each router has a cause.
abbrev pub MovesAreAsked : List (Config × List ℕ) → List Move → List Outcome → Type 0
MovesAreAsked nodes moves outcomes = (r : ℕ) (node : Config × List ℕ) → slice_get nodes r ≡ Some node
    → OutcomesAreAsked [] (opening node.0) (events_in r (network nodes) moves)
    (outcomes_in r (network nodes) moves outcomes)

-- In every network each copy of each router has a cause.
abbrev pub NetworkIsAsked : Type 0
NetworkIsAsked = (nodes : List (Config × List ℕ)) (moves : List Move) → nodes_test nodes ≡ Ok tt
    → MovesAreAsked nodes moves (network_ran (network nodes) moves).0
