-- What a user expects of a reload.
use Rattle.std.{specs.{List.{list_all, list_any}, Prelude.{Bool, List, None, Ok, Some, [], false, filter, length, map, nat_le, nat_lt, not, slice_get, take, true, ℕ, ◌&&◌, ◌*◌, ◌++◌, ◌+◌, ◌==◌, ◌≡◌}}}
use Rattle.pim_types.{specs.{declared.{config.{Config.Config, InterfaceConfig.InterfaceConfig, Settings.Settings}, fact.{AssertRow.AssertRow, DownstreamRow.DownstreamRow, GroupRecordRow.GroupRecordRow, GroupRepeatRow.GroupRepeatRow, Key.Key, NeighbourRow.NeighbourRow, QuerierRole.QuerierRole, QuerierRow.QuerierRow, SendingRow.SendingRow, SourceRecordRow.SourceRecordRow, SourceRepeatRow.SourceRepeatRow}}, Keys.{iface_in, source_in}}}
use Rattle.pim_wire.{specs.{Messages.pim_reading, declared.view.PimView.PimView}}
use Rattle.pim_model.{specs.{Clearing.clear, Limits.config_test, Messages.Message, State.{Addressing, State, addressing_of, iface_config, iface_count, interfaces_of, is_own_among, is_up}, Tables.below, Unicast.rp_of, Upstream.{fact_keys, upstream}, Writing.{hello_emission, write_all}}}
use Rattle.law_events.{specs.Rest.IsAtRest}
use Rattle.law_states.{specs.{Reload.config_of, Reloading.{goodbye_text, hellos_anew, queriers_under, reload, replaced, tells_anew, under}}}

-- ---- queriers

-- Where the router is the querier, the configured robustness and query interval are in force, the next general query
-- leaves within the query interval, and no more startup queries are left than the robustness.
abbrev pub is_near_by : ℕ → Settings → QuerierRow → QuerierRole → Bool
is_near_by present t q (QuerierRole.Querier next left) =
    (q.robustness == t.robustness)
    && ((q.query_interval == t.query_interval)
    && (nat_le next (present + 1000 * q.query_interval) && nat_le left q.robustness))
is_near_by present t q (QuerierRole.NonQuerier end) = true

unfoldable pub next_query_is_near : State → Bool
next_query_is_near s = list_all (λ (e : Key × QuerierRow). is_near_by s.present s.settings e.1 (e.1).role) s.queriers

-- It is so after each reload, with any configuration.
abbrev pub NextQueryIsNearAnew : Type 0
NextQueryIsNearAnew = (s : State) (c : Config) (w : ℕ) → next_query_is_near (reload s c w).0 ≡ true

-- ---- nothing moves

-- A reload with the configuration that there is changes nothing, and sends nothing, where the next general queries are
-- near, as after any events and reloads.
abbrev pub SameReloadChangesNothing : Type 0
SameReloadChangesNothing = (s : State) (w : ℕ) → IsAtRest s → next_query_is_near s ≡ true
    → reload s (config_of s) w ≡ (s, [])

-- the configuration of a state with other settings: another limit, another switch to the SPT, other robustness and
-- intervals of IGMP
abbrev pub with_settings : State → Settings → Config
with_settings s t = record {
  interfaces = s.configured.interfaces;
  limit = t.limit;
  spt = t.spt;
  robustness = t.robustness;
  query_interval = t.query_interval;
  query_response_interval = t.query_response_interval;
  last_member_query_interval = t.last_member_query_interval;
  routes = s.routes;
  rps = s.ranges.static_ranges;
  addresses = s.configured.addresses;
}

-- Other settings move no fact but what queriers go by, and send nothing, whatever the limit and however many facts there
-- are.
abbrev pub SettingsMoveNothing : Type 0
SettingsMoveNothing = (s : State) (t : Settings) (w : ℕ) → IsAtRest s
    → reload s (with_settings s t) w ≡ (record s { settings = t; queriers = queriers_under s t }, [])

-- ---- what a reload leaves

-- whatever the other configuration is, what it leaves is at rest
abbrev pub ReloadLeavesRest : Type 0
ReloadLeavesRest =
    (s : State) (c : Config) (w : ℕ) → config_test c ≡ Ok tt → IsAtRest s → IsAtRest (reload s c w).0

-- the state is under the configuration of the reload, and no other
abbrev pub ReloadIsUnder : Type 0
ReloadIsUnder = (s : State) (c : Config) (w : ℕ) → config_of (reload s c w).0 ≡ c

-- ---- interfaces

-- Each interface that is up is configured, as in every state of a run (`EachLiesUnder` of law_streams).
abbrev pub AreConfigured : State → Type 0
AreConfigured s = (i : ℕ) → is_up s i ≡ true → nat_lt i (iface_count s) ≡ true

-- An interface that stays is up after a reload exactly where it was up before.
abbrev pub KeptStayUp : Type 0
KeptStayUp = (s : State) (c : Config) (w i : ℕ) → nat_lt i (length c.interfaces) ≡ true
    → is_up (reload s c w).0 i ≡ is_up s i

-- After a reload only interfaces of the new configuration are up.
abbrev pub ReloadKeepsConfigured : Type 0
ReloadKeepsConfigured = (s : State) (c : Config) (w : ℕ) → AreConfigured s → AreConfigured (reload s c w).0

-- All facts of interfaces are of the first n interfaces.
pub record AreOfFirst (n : ℕ) (s : State) : Type 0 where
  pub neighbours : list_all (λ (e : Key × NeighbourRow). nat_lt (iface_in e.0) n) s.neighbours ≡ true
  pub queriers : list_all (λ (e : Key × QuerierRow). nat_lt (iface_in e.0) n) s.queriers ≡ true
  pub group_records : list_all (λ (e : Key × GroupRecordRow). nat_lt (iface_in e.0) n) s.group_records ≡ true
  pub source_records : list_all (λ (e : Key × SourceRecordRow). nat_lt (iface_in e.0) n) s.source_records ≡ true
  pub group_repeats : list_all (λ (e : Key × GroupRepeatRow). nat_lt (iface_in e.0) n) s.group_repeats ≡ true
  pub source_repeats : list_all (λ (e : Key × SourceRepeatRow). nat_lt (iface_in e.0) n) s.source_repeats ≡ true
  pub sendings : list_all (λ (e : Key × SendingRow). nat_lt (iface_in e.0) n) s.sendings ≡ true
  pub downstream : list_all (λ (e : Key × DownstreamRow). nat_lt (iface_in e.0) n) s.downstream ≡ true
  pub asserts : list_all (λ (e : Key × AssertRow). nat_lt (iface_in e.0) n) s.asserts ≡ true

-- No fact stays of an interface that is removed.
abbrev pub NoneOfRemoved : Type 0
NoneOfRemoved = (s : State) (c : Config) (w : ℕ) → config_test c ≡ Ok tt → IsAtRest s → AreConfigured s
    → AreOfFirst (length c.interfaces) (reload s c w).0

-- ---- Hellos

-- the interfaces whose Hello says something else, ascending
abbrev pub told_anew : State → Config → List ℕ
told_anew s c = filter (tells_anew s (addressing_of c)) (below (length c.interfaces))

-- After the configuration is replaced the Hellos of these interfaces leave first, one each, as the new configuration has
-- them.
abbrev pub HellosLeaveFirst : Type 0
HellosLeaveFirst = (s : State) (c : Config) (w : ℕ) → take (length (told_anew s c)) (replaced s c w).1
    ≡ map (hello_emission (interfaces_of (under s c))) (told_anew s c)

unfoldable pub is_hello : Message → Bool
is_hello (Message.Hello i) = true
is_hello m = false

-- What goes after a reload's change, and what is sent upstream after it, has no Hello. A Hello that was owed before
-- leaves before the first Join/Prune or Assert on its interface, as after any event.
abbrev pub NoOtherHello : Type 0
NoOtherHello = (o a : State) (w : ℕ) → list_all (λ m. not (is_hello m)) ((clear o a).1 ++ (upstream o a w).1) ≡ true

-- An interface on which a reload sends no Hello would send the same bytes by both configurations.
abbrev pub UntoldSaysSame : Type 0
UntoldSaysSame = (s : State) (configured : Addressing) (i : ℕ) (a b : InterfaceConfig)
    → iface_config s i ≡ Some a → slice_get configured.interfaces i ≡ Some b → is_up s i ≡ true
    → tells_anew s configured i ≡ false
    → hello_emission (record { configured = configured; rows = s.interfaces }) i ≡ hello_emission (interfaces_of s) i

-- A goodbye reads as a Hello that holds for no time.
abbrev pub GoodbyeReads : Type 0
GoodbyeReads = pim_reading goodbye_text
    ≡ Ok (PimView.Hello (record { holdtime = Some 0; lan_delay = None; priority = None; generation = None }))

-- ---- appended interfaces

-- Interfaces, and own addresses of no interface, may be appended: they are those of no RP, and of no source that has a
-- fact.
pub record AreNew (s : State) (more : Addressing) : Type 0 where
  pub rps : (g rp : ℕ) → rp_of s g ≡ Some rp → is_own_among more rp ≡ false
  pub sources : list_any (λ k. is_own_among more (source_in k)) (fact_keys s) ≡ false

-- the configuration of a state with other interfaces and own addresses, or with more
abbrev pub with_addressing : State → Addressing → Config
with_addressing s configured =
    record (config_of s) { interfaces = configured.interfaces; addresses = configured.addresses }

abbrev pub appended : Addressing → Addressing → Addressing
appended first more = record {
  interfaces = first.interfaces ++ more.interfaces;
  addresses = first.addresses ++ more.addresses;
}

abbrev pub with_more : State → Addressing → Config
with_more s more = with_addressing s (appended s.configured more)

-- Interfaces that are appended move no fact, and nothing is sent: they are down. Nor do own addresses of no interface. The
-- next general queries are near.
abbrev pub AppendedMoveNothing : Type 0
AppendedMoveNothing = (s : State) (more : Addressing) (w : ℕ) → IsAtRest s → next_query_is_near s ≡ true
    → AreConfigured s → AreNew s more → reload s (with_more s more) w ≡ (record s { configured = appended s.configured more }, [])

-- ---- a configuration with other delays

abbrev pub without_delays : InterfaceConfig → InterfaceConfig
without_delays c = record c { propagation_delay = 0; override_interval = 0 }

-- Other delays alone move no fact, and nothing is sent but their Hellos. The next general queries are near.
abbrev pub DelaysMoveNothing : Type 0
DelaysMoveNothing = (s : State) (configured : Addressing) (w : ℕ)
    → map without_delays configured.interfaces ≡ map without_delays s.configured.interfaces
    → configured.addresses ≡ s.configured.addresses → IsAtRest s → next_query_is_near s ≡ true → AreConfigured s
    → reload s (with_addressing s configured) w ≡ write_all (record s { configured = configured }) (hellos_anew s configured)
