-- Which table comes with an event.
use Rattle.std.{specs.{Box.box_value, Prelude.{Box, Option, Some, option_map, ◌≡◌}}}
use Rattle.pim_types.{specs.declared.event.EventKind.EventKind}
use Rattle.pim_model.{specs.{State.State, Unicast.{with_candidates, with_ranges}}}
use Rattle.pim_mrib.{specs.Routes.RouteTable}

-- The table beside an event that brings routes has these; beside one that brings RP ranges or candidates it has these, with
-- the others of the state.
abbrev pub IsTableOf : {A : Type 0} → State → EventKind → Option (Box RouteTable A) → Type 0
IsTableOf s (EventKind.Routes routes) table = option_map (λ t. (box_value {X = RouteTable} t).routes) table ≡ Some routes
IsTableOf s (EventKind.Rps ranges) table =
    option_map (λ t. (box_value {X = RouteTable} t).ranges) table ≡ Some (with_ranges s.ranges ranges)
IsTableOf s (EventKind.RpCandidates candidates) table =
    option_map (λ t. (box_value {X = RouteTable} t).ranges) table ≡ Some (with_candidates s.ranges candidates)
IsTableOf s _ table = Unit {0}
