-- What the values that a program gives stand for.
use Rattle.std.specs.Prelude.{None, Option, Some, if◌then◌else◌, map, ℕ, ◌==◌}
use Rattle.pim_ip.{specs.{Addr.addr, declared.addr.Prefix.Prefix}}
use Rattle.pim_types.{specs.declared.{config.{Config.Config, InterfaceConfig.InterfaceConfig, Route.Route, RpCandidate.RpCandidate, RpRange.RpRange, SptSwitch.SptSwitch}, event.{Event.Event, EventKind.EventKind}}}
use Rattle.pim_anycast.{specs.declared.set.RpSet.RpSet}
use Rattle.pim_ifset.{specs.Members.iface_of}
use Rattle.pim_c.{specs.declared.given.{GivenCandidate.GivenCandidate, GivenConfiguration.GivenConfiguration, GivenInterface.GivenInterface, GivenRange.GivenRange, GivenRoute.GivenRoute, GivenRpSet.GivenRpSet}}

abbrev pub interface_of : GivenInterface → InterfaceConfig
interface_of g = record {
  address = addr g.address;
  length = g.length;
  priority = g.priority;
  propagation_delay = g.propagation_delay;
  override_interval = g.override_interval;
}

abbrev pub given_prefix : ℕ → ℕ → Prefix
given_prefix address length = record { address = addr address; length = length }

abbrev pub route_of : GivenRoute → Route
route_of g = record {
  prefix = given_prefix g.prefix g.length;
  next_hop = addr g.next_hop;
  iface = iface_of g.iface;
  preference = g.preference;
  metric = g.metric;
}

abbrev pub range_of : GivenRange → RpRange
range_of g = record { prefix = given_prefix g.prefix g.length; rp = addr g.rp }

abbrev pub candidate_of : GivenCandidate → RpCandidate
candidate_of g = record {
  prefix = given_prefix g.prefix g.length;
  rp = addr g.rp;
  priority = g.priority;
  hash_length = g.hash_length;
}

abbrev pub rp_set_of : GivenRpSet → RpSet
rp_set_of g = record { shared = addr g.shared; own = addr g.own; others = map addr g.others.now }

abbrev pub config_of : GivenConfiguration → Config
config_of g = record {
  interfaces = map interface_of g.interfaces.now;
  addresses = map addr g.addresses.now;
  limit = g.settings.limit;
  spt = if g.settings.stays_on_shared_tree then SptSwitch.Never else SptSwitch.Always;
  robustness = g.settings.robustness;
  query_interval = g.settings.query_interval;
  query_response_interval = g.settings.query_response_interval;
  last_member_query_interval = g.settings.last_member_query_interval;
  routes = map route_of g.routes.now;
  rps = map range_of g.ranges.now;
}

-- a number that stands for a place, or for none
abbrev pub place_of : ℕ → Option ℕ
place_of n = if n == 4294967295 then None else Some n

abbrev pub given_event : ℕ → EventKind → Event
given_event draw kind = record { draw = draw; kind = kind }
