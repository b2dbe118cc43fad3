-- The state of the specification: plain facts (RFC 7761, sections 4.1.1 to 4.1.4; RFC 3376, section 6.2). It has no
-- upstream state and no RPF neighbour, since these follow from the facts.
use Rattle.std.{specs.{List.list_any, Option.option_map_or, Prelude.{Bool, List, Option, [], length, slice_get, ℕ, ◌==◌, ◌||◌}}}
use Rattle.pim_ip.{specs.declared.addr.Addr.Addr}
use Rattle.pim_types.{specs.{Keys.iface_key, declared.{config.{Config.Config, InterfaceConfig.InterfaceConfig, Route.Route, RpTable.RpTable, Settings.Settings}, fact.{AssertRow.AssertRow, DownstreamRow.DownstreamRow, GroupRecordRow.GroupRecordRow, GroupRepeatRow.GroupRepeatRow, InterfaceRow.InterfaceRow, JoinTimerRow.JoinTimerRow, NeighbourRow.NeighbourRow, OverrideTimerRow.OverrideTimerRow, QuerierRow.QuerierRow, RegisterRow.RegisterRow, SendingRow.SendingRow, SourceRecordRow.SourceRecordRow, SourceRepeatRow.SourceRepeatRow, SourceRow.SourceRow}}}}
use Rattle.pim_model.{specs.Tables.{Table, below, has_row}}

-- what is configured of the router's addresses: of each interface, in the order of their numbers, and the own addresses
-- that are of no interface, as a loopback's, which have no link
pub record Addressing : Type 0 where
  pub interfaces : List InterfaceConfig
  pub addresses : List Addr

-- the whole state of a router: its configuration, its present time, and its facts in tables
pub record State : Type 0 where
  pub settings : Settings
  pub configured : Addressing
  pub present : ℕ
  pub routes : List Route
  pub ranges : RpTable
  -- under keys of interfaces: the interfaces that are up, with GenID and Hello Timer; PIM neighbours (RFC 7761,
  -- sections 4.1.1 and 4.3); the querier's state (RFC 3376, section 6.6.2)
  pub interfaces : Table InterfaceRow
  pub neighbours : Table NeighbourRow
  pub queriers : Table QuerierRow
  -- IGMP membership, by interface, group and source: records with their timers (RFC 3376, section 6.2), and queries
  -- that are still to leave (6.6.3)
  pub group_records : Table GroupRecordRow
  pub source_records : Table SourceRecordRow
  pub group_repeats : Table GroupRepeatRow
  pub source_repeats : Table SourceRepeatRow
  pub sendings : Table SendingRow
  -- PIM, by interface, group and source: DownstreamJPState with ET and PPT (RFC 7761, sections 4.5.1 to 4.5.3),
  -- asserts with AT (4.6.1, 4.6.2)
  pub downstream : Table DownstreamRow
  pub asserts : Table AssertRow
  -- of the whole router, by group and source: JT(*,G) and JT(S,G), OT(S,G,rpt), KAT(S,G) with SPTbit(S,G), the register
  -- state with RST(S,G) (4.1.2 to 4.1.4)
  pub join_timers : Table JoinTimerRow
  pub override_timers : Table OverrideTimerRow
  pub sources : Table SourceRow
  pub registers : Table RegisterRow

-- a configuration without its lists
unfoldable pub settings_of : Config → Settings
settings_of c = record {
  limit = c.limit;
  spt = c.spt;
  robustness = c.robustness;
  query_interval = c.query_interval;
  query_response_interval = c.query_response_interval;
  last_member_query_interval = c.last_member_query_interval;
}

-- the addressing of a configuration
abbrev pub addressing_of : Config → Addressing
addressing_of c = record { interfaces = c.interfaces; addresses = c.addresses }

-- the state at the opening: timestamp 0, all interfaces down, the configured routes and RP ranges, no candidate RP
unfoldable pub opening : Config → State
opening c = record {
  settings = settings_of c;
  configured = addressing_of c;
  present = 0;
  routes = c.routes;
  ranges = record { static_ranges = c.rps; candidates = [] };
  interfaces = [];
  neighbours = [];
  queriers = [];
  group_records = [];
  source_records = [];
  group_repeats = [];
  source_repeats = [];
  sendings = [];
  downstream = [];
  asserts = [];
  join_timers = [];
  override_timers = [];
  sources = [];
  registers = [];
}

-- how many interfaces are configured
abbrev pub iface_count : State → ℕ
iface_count s = length s.configured.interfaces

-- the numbers of the configured interfaces, ascending
abbrev pub ifaces : State → List ℕ
ifaces s = below (iface_count s)

-- what is configured of an interface
unfoldable pub iface_config : State → ℕ → Option InterfaceConfig
iface_config s i = slice_get s.configured.interfaces i

-- a value of an interface's configuration; 0 for an interface that isn't configured
abbrev pub value_among : (InterfaceConfig → ℕ) → Addressing → ℕ → ℕ
value_among field configured i = option_map_or field (slice_get configured.interfaces i) 0

-- the address of an interface; 0 for an interface that isn't configured
abbrev pub address_among : Addressing → ℕ → ℕ
address_among configured i = value_among (λ c. c.address.bits) configured i

-- my_ip_address(I)
abbrev pub my_address : State → ℕ → ℕ
my_address s i = address_among s.configured i

-- the DR Priority that the router announces (RFC 7761, section 4.3.1)
abbrev pub my_priority : State → ℕ → ℕ
my_priority s i = value_among (λ c. c.priority) s.configured i

-- Propagation_Delay(I) that the router announces, in ms
abbrev pub my_propagation_delay : State → ℕ → ℕ
my_propagation_delay s i = value_among (λ c. c.propagation_delay) s.configured i

-- Override_Interval(I) that the router announces, in ms
abbrev pub my_override_interval : State → ℕ → ℕ
my_override_interval s i = value_among (λ c. c.override_interval) s.configured i

-- what is configured of the router's addresses, and the rows of the interfaces that are up
pub record InterfaceTable : Type 0 where
  pub configured : Addressing
  pub rows : Table InterfaceRow

-- the interface table of a state
abbrev pub interfaces_of : State → InterfaceTable
interfaces_of s = record { configured = s.configured; rows = s.interfaces }

-- the interface is up
abbrev pub is_up : State → ℕ → Bool
is_up s i = has_row s.interfaces (iface_key i)

-- the address is one of the router's: an interface's, whether that is up or not, or one of no interface
unfoldable pub is_own_among : Addressing → ℕ → Bool
is_own_among configured address =
    list_any (λ c. c.address.bits == address) configured.interfaces
    || list_any (λ a. a.bits == address) configured.addresses

-- the address is one of the router's, in a state
abbrev pub is_own : State → ℕ → Bool
is_own s address = is_own_among s.configured address
