-- The state that is made of the parts of a world.
use Rattle.std.{specs.Prelude.{Bool, nat_le, ℕ, ◌&&◌, ◌^◌}}
use Rattle.pim_types.{specs.declared.{config.Settings.Settings, fact.NeighbourRow.NeighbourRow}}
use Rattle.igmp_membership.{specs.MembershipTables.MembershipTables}
use Rattle.pim_mrib.{specs.Routes.RouteTable}
use Rattle.pim_model.{specs.{State.{InterfaceTable, State}, Tables.Table}}
use Rattle.pim_store.{specs.PimTables.PimTables}

-- the state of the given settings, present time and tables
abbrev pub parts_of : Settings → ℕ → InterfaceTable → RouteTable → Table NeighbourRow → MembershipTables → PimTables → State
parts_of settings present interfaces mrib neighbours membership store = record {
  settings = settings;
  configured = interfaces.configured;
  present = present;
  routes = mrib.routes;
  ranges = mrib.ranges;
  interfaces = interfaces.rows;
  neighbours = neighbours;
  queriers = membership.queriers;
  group_records = membership.group_records;
  source_records = membership.source_records;
  group_repeats = membership.group_repeats;
  source_repeats = membership.source_repeats;
  sendings = membership.sendings;
  downstream = store.downstream;
  asserts = store.asserts;
  join_timers = store.join_timers;
  override_timers = store.override_timers;
  sources = store.sources;
  registers = store.registers;
}

-- settings and a present that a world has
abbrev pub are_held : Settings → ℕ → Bool
are_held s present = nat_le present (2 ^ 62) && (nat_le 2 s.robustness && (nat_le s.robustness 7 && nat_le s.query_interval 31744))
