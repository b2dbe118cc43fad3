-- The router of the worked runs: interfaces 0, 1 and 2 are up, 10.0.0.1 is a neighbour on 0 and 10.0.1.2 on
-- 1, and the routes to the RP and to the sources go by 10.0.0.1.
use Rattle.std.{specs.Prelude.{List, [], ℕ, ◌∷◌}}
use Rattle.pim_ip.{specs.{declared.addr.Prefix.Prefix, Addr.addr}}
use Rattle.pim_types.{specs.declared.{config.{Config.Config, InterfaceConfig.InterfaceConfig, Route.Route, RpRange.RpRange, SptSwitch.SptSwitch}, event.Event.Event}}
use Rattle.pim_model.{specs.{State.{State, opening}, Step.state_after}}
use Rattle.pim_runs.{specs.{Packets.{hello_of_10_0_0_1, hello_of_10_0_1_2}, Words.{address, frame, up}}}

-- the group, a source behind 10.0.0.1, and one on the link of interface 2
abbrev pub group : ℕ
group = address 225 1 1 1

abbrev pub source : ℕ
source = address 10 0 3 5

abbrev pub host : ℕ
host = address 10 0 2 5

abbrev pub rp : ℕ
rp = address 10 9 9 9

-- ---- configurations

abbrev pub prefix : ℕ → ℕ → Prefix
prefix bits length = record { address = addr bits; length = length }

-- An interface with the default priority and delays.
abbrev pub interface : ℕ → InterfaceConfig
interface bits = record {
  address = addr bits;
  length = 24;
  priority = 1;
  propagation_delay = 500;
  override_interval = 2500;
}

-- A route with preference 110 and metric 20.
abbrev pub route_by : ℕ → ℕ → Prefix → Route
route_by i next_hop p = record {
  prefix = p;
  next_hop = addr next_hop;
  iface = record { number = i };
  preference = 110;
  metric = 20;
}

abbrev pub rp_for : Prefix → ℕ → RpRange
rp_for p address = record { prefix = p; rp = addr address }

abbrev pub rp_network : Prefix
rp_network = prefix (address 10 9 9 0) 24

abbrev pub source_network : Prefix
source_network = prefix (address 10 0 3 0) 24

abbrev pub all_groups : Prefix
all_groups = prefix (address 224 0 0 0) 4

abbrev pub base_routes : List Route
base_routes = route_by 0 (address 10 0 0 1) rp_network ∷ route_by 0 (address 10 0 0 1) source_network ∷ []

abbrev pub base : Config
base = record {
  interfaces = interface (address 10 0 0 2) ∷ interface (address 10 0 1 1) ∷ interface (address 10 0 2 1) ∷ [];
  limit = 65536;
  spt = SptSwitch.Always;
  robustness = 2;
  query_interval = 125;
  query_response_interval = 100;
  last_member_query_interval = 10;
  routes = base_routes;
  rps = rp_for all_groups rp ∷ [];
  addresses = [];
}

-- ---- the opening

abbrev pub opening_events : List Event
opening_events = up 7 0 ∷ up 7 1 ∷ up 7 2 ∷ frame 0 hello_of_10_0_0_1 ∷ frame 1 hello_of_10_0_1_2 ∷ []

-- a router of another configuration after the same events
abbrev pub opened_with : Config → State
opened_with c = state_after (opening c) opening_events

-- the base router after the opening events
abbrev pub opened : State
opened = opened_with base

-- the state after further events
abbrev pub after : List Event → State
after events = state_after opened events
