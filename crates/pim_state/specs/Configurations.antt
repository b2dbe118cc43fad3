-- Which configurations are accepted, but for their routes and RP ranges, and the state that they begin with.
use Rattle.std.{specs.Prelude.{Result, []}}
use Rattle.pim_ip.{specs.{declared.refusal.Refusal.Refusal, Tests.{expect, ◌>>◌}}}
use Rattle.pim_types.{specs.declared.config.{Config.Config, Settings.Settings}}
use Rattle.pim_model.{specs.{Limits.{is_between, is_querier_config}, State.{State, InterfaceTable}}}
use Rattle.pim_ifaces.{specs.Interfaces.{delays_test, interfaces_test}}
use Rattle.pim_mrib.{specs.Routes.RouteTable}

-- the tests of a configuration but for its routes and RP ranges
unfoldable pub settings_test : Config → Result (Unit {0}) Refusal
settings_test c =
    interfaces_test c.interfaces
    >> expect (is_between 1 1000000 c.limit) Refusal.BadLimit
    >> expect (is_querier_config c) Refusal.BadQuerier
    >> delays_test c.interfaces

-- A state at timestamp 0 without facts.
abbrev pub without_facts : Settings → InterfaceTable → RouteTable → State
without_facts settings interfaces mrib = record {
  settings = settings;
  configured = interfaces.configured;
  present = 0;
  routes = mrib.routes;
  ranges = mrib.ranges;
  interfaces = interfaces.rows;
  neighbours = [];
  queriers = [];
  group_records = [];
  source_records = [];
  group_repeats = [];
  source_repeats = [];
  sendings = [];
  downstream = [];
  asserts = [];
  join_timers = [];
  override_timers = [];
  sources = [];
  registers = [];
}
