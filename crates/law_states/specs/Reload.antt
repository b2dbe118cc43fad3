-- A state under another configuration.
use Rattle.std.{specs.Prelude.{List, Ok, [], nat_lt, true, ℕ, ◌≡◌}}
use Rattle.pim_types.{specs.declared.{config.{Config.Config, Settings.Settings}, outcome.Emission.Emission}}
use Rattle.pim_model.{specs.{Firing.settled, Limits.config_test, State.{State, addressing_of, settings_of}, Unicast.with_ranges}}
use Rattle.law_events.{specs.Rest.IsAtRest}

-- The settings have no robustness and no interval that is 0.
pub record IsSetting (t : Settings) : Type 0 where
  pub robustness : nat_lt 0 t.robustness ≡ true
  pub query_interval : nat_lt 0 t.query_interval ≡ true
  pub last_member_query_interval : nat_lt 0 t.last_member_query_interval ≡ true

-- A state at rest is at rest with other settings: another limit, other intervals and robustness of IGMP, another switch
-- to the SPT.
abbrev pub FreshSettingsKeepRest : Type 0
FreshSettingsKeepRest = (s : State) (t : Settings) → IsSetting t → IsAtRest s → IsAtRest (record s { settings = t })

-- a state with all its facts, under another configuration; the candidates, of which no configuration says anything, stay
unfoldable pub reconfigured : State → Config → State
reconfigured s c = record s {
  settings = settings_of c;
  configured = addressing_of c;
  routes = c.routes;
  ranges = with_ranges s.ranges c.rps;
}

-- The state after a new configuration, with what follows of the change, as of any event, and what that sends.
unfoldable pub reloaded : State → Config → ℕ → State × List Emission
reloaded s c w = settled s (reconfigured s c, []) w

-- whatever the other configuration is, what it leaves is at rest
abbrev pub ReloadIsAtRest : Type 0
ReloadIsAtRest = (s : State) (c : Config) (w : ℕ) → config_test c ≡ Ok tt → IsAtRest s → IsAtRest (reloaded s c w).0

-- the configuration that a state is under, beside its candidates
unfoldable pub config_of : State → Config
config_of s = record {
  interfaces = s.configured.interfaces;
  limit = s.settings.limit;
  spt = s.settings.spt;
  robustness = s.settings.robustness;
  query_interval = s.settings.query_interval;
  query_response_interval = s.settings.query_response_interval;
  last_member_query_interval = s.settings.last_member_query_interval;
  routes = s.routes;
  rps = s.ranges.static_ranges;
  addresses = s.configured.addresses;
}

-- Under its own configuration a state at rest is unchanged, and nothing is sent: a restart is a reload that changes
-- nothing.
abbrev pub SameConfigurationChangesNothing : Type 0
SameConfigurationChangesNothing = (s : State) (w : ℕ) → IsAtRest s → reloaded s (config_of s) w ≡ (s, [])
