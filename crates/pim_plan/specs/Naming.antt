-- What is known of an accepted event: its tests passed.
use Rattle.std.{specs.{Box.box_value, Prelude.{Box, Option, Some, option_map, ◌<◌, ◌≤◌, ◌≡◌}}}
use Rattle.pim_mrib.{specs.Routes.RouteTable}
use Rattle.pim_model.{specs.{declared.accepted.Accepted.Accepted, Judging.last_moment, State.{State, iface_count}}}

-- The interface of an event is one of the router's, and its timestamp is one that an event may have.
abbrev pub IsConfigured : State → Accepted → Type 0
IsConfigured s (Accepted.Advance moment) = moment ≤ last_moment
IsConfigured s (Accepted.Up i) = i.number < iface_count s
IsConfigured s (Accepted.Down i) = i.number < iface_count s
IsConfigured s (Accepted.Hello i from h) = i.number < iface_count s
IsConfigured s (Accepted.JoinPruneToMe i m) = i.number < iface_count s
IsConfigured s (Accepted.JoinPruneSeen i m) = i.number < iface_count s
IsConfigured s (Accepted.Assert i from a) = i.number < iface_count s
IsConfigured s (Accepted.Query i from q) = i.number < iface_count s
IsConfigured s (Accepted.Report i records) = i.number < iface_count s
IsConfigured s (Accepted.Data i packet) = i.number < iface_count s
IsConfigured s _ = Unit {0}

-- There is a table of the routes, or of the RP ranges, that the event brings.
abbrev pub Brings : {A : Type 0} → Accepted → Option (Box RouteTable A) → Type 0
Brings (Accepted.Routes routes) table = option_map (λ t. (box_value {X = RouteTable} t).routes) table ≡ Some routes
Brings (Accepted.Rps ranges) table = option_map (λ t. (box_value {X = RouteTable} t).ranges) table ≡ Some ranges
Brings _ table = Unit {0}
