-- The facts that don't count: each is of an interface, lies under a fact that counts, runs for what is wanted, or
-- expires soon.
use Rattle.std.{specs.{List.{list_all, list_any}, Prelude.{Bool, List, Ok, if◌then◌else◌, length, nat_le, nat_lt, true, ℕ, ◌&&◌, ◌*◌, ◌+◌, ◌≡◌, ◌≤◌}}}
use Rattle.pim_types.{specs.{Keys.{group_in, iface_in, iface_key, is_star, same_key, source_in}, declared.{config.Config.Config, event.{Event.Event, EventKind.EventKind}, fact.{GroupRepeatRow.GroupRepeatRow, InterfaceRow.InterfaceRow, JoinTimerRow.JoinTimerRow, Key.Key, OverrideTimerRow.OverrideTimerRow, QuerierRow.QuerierRow, RegisterRow.RegisterRow, SendingRow.SendingRow, SourceRepeatRow.SourceRepeatRow}}}}
use Rattle.pim_model.{specs.{Desires.{join_desired, join_desired_star}, Full.counted, Limits.config_test, Querier.is_sending, State.{State, iface_count, opening}, Step.state_after, Tables.has_row}}

-- the key of a configured interface
abbrev pub is_of_interface : State → Key → Bool
is_of_interface s k = same_key (iface_key (iface_in k)) k && nat_lt (iface_in k) (iface_count s)

-- Where each fact that doesn't count lies: interfaces and queriers are of configured interfaces; a repeated group query
-- lies under the record of its group; what is left to send of a source's query under the record of the source; the time
-- of the next sending under a source of its group on its interface; a register under its source.
pub record LiesUnder (s : State) : Type 0 where
  pub interfaces : list_all (λ (e : Key × InterfaceRow). is_of_interface s e.0) s.interfaces ≡ true
  pub queriers : list_all (λ (e : Key × QuerierRow). has_row s.interfaces e.0) s.queriers ≡ true
  pub group_repeats : list_all (λ (e : Key × GroupRepeatRow). has_row s.group_records e.0) s.group_repeats ≡ true
  pub sendings : list_all (λ (e : Key × SendingRow). has_row s.source_records e.0) s.sendings ≡ true
  pub source_repeats : list_all (λ (e : Key × SourceRepeatRow).
      list_any (is_sending (iface_in e.0) (group_in e.0)) s.sendings) s.source_repeats ≡ true
  pub registers : list_all (λ (e : Key × RegisterRow). has_row s.sources e.0) s.registers ≡ true

-- Each fact lies under one that counts, after any events from the opening with an accepted configuration.
abbrev pub EachLiesUnder : Type 0
EachLiesUnder = (c : Config) (events : List Event) → config_test c ≡ Ok tt → LiesUnder (state_after (opening c) events)

-- Each table of uncounted facts has at most as many rows as the table that it depends on.
pub record IsShorter (s : State) : Type 0 where
  pub interfaces : length s.interfaces ≤ iface_count s
  pub queriers : length s.queriers ≤ length s.interfaces
  pub group_repeats : length s.group_repeats ≤ length s.group_records
  pub sendings : length s.sendings ≤ length s.source_records
  pub source_repeats : length s.source_repeats ≤ length s.sendings
  pub registers : length s.registers ≤ length s.sources

-- Facts that lie under facts that count are no more than these.
abbrev pub EachIsShorter : Type 0
EachIsShorter = (c : Config) (events : List Event) → config_test c ≡ Ok tt → IsShorter (state_after (opening c) events)

-- The facts that don't count, without the Join and override timers.
abbrev pub uncounted_facts : State → ℕ
uncounted_facts s =
    length s.interfaces + length s.queriers + length s.group_repeats + length s.sendings + length s.source_repeats
    + length s.registers

abbrev pub UncountedStayBounded : Type 0
UncountedStayBounded = (c : Config) (events : List Event) → config_test c ≡ Ok tt
    → uncounted_facts (state_after (opening c) events) ≤ 2 * (c.limit + length c.interfaces)

-- ---- override timers: each expires soon

-- the longest override interval that is configured or that a Hello announces, in ms
abbrev pub longest_override : ℕ
longest_override = 65535

-- a frame is a list of numbers below 256
abbrev pub are_bytes : List ℕ → Bool
are_bytes bytes = list_all (λ b. nat_lt b 256) bytes

-- An event's frame, if it has one, is of bytes.
abbrev pub is_of_bytes : EventKind → Bool
is_of_bytes (EventKind.Frame i bytes) = are_bytes bytes
is_of_bytes kind = true

-- In a state, no override timer expires later than the longest override interval after the present time.
abbrev pub OverridesEndSoon : State → Type 0
OverridesEndSoon s = list_all (λ (e : Key × OverrideTimerRow). nat_le (e.1).end (s.present + longest_override)) s.override_timers ≡ true

-- Override timers expire within the longest override interval, after any events whose frames are of bytes.
abbrev pub EachOverrideEndsSoon : Type 0
EachOverrideEndsSoon = (c : Config) (events : List Event) → config_test c ≡ Ok tt
    → list_all (λ (e : Event). is_of_bytes e.kind) events ≡ true → OverridesEndSoon (state_after (opening c) events)

-- ---- Join timers: each runs for what is wanted

-- The (*,G) or (S,G) of the key is wanted.
abbrev pub is_wanted : State → Key → Bool
is_wanted s k = if is_star k then join_desired_star s (group_in k) else join_desired s (group_in k) (source_in k)

-- Each Join timer runs for a (*,G) or (S,G) that is wanted.
abbrev pub EachJoinIsWanted : Type 0
EachJoinIsWanted = (c : Config) (events : List Event) → config_test c ≡ Ok tt
    → list_all (λ (e : Key × JoinTimerRow). is_wanted (state_after (opening c) events) e.0)
    (state_after (opening c) events).join_timers ≡ true

-- The Join timers are no more than the records, downstream rows and sources by which their (*,G) or (S,G) is wanted.
abbrev pub JoinTimersStayBounded : Type 0
JoinTimersStayBounded = (c : Config) (events : List Event) → config_test c ≡ Ok tt
    → length (state_after (opening c) events).join_timers ≤ c.limit

-- all facts but the override timers
abbrev pub all_but_overrides : State → ℕ
all_but_overrides s = counted s + uncounted_facts s + length s.join_timers

-- All facts but the override timers are bounded by the limit and the number of interfaces.
abbrev pub AllStayBounded : Type 0
AllStayBounded = (c : Config) (events : List Event) → config_test c ≡ Ok tt
    → all_but_overrides (state_after (opening c) events) ≤ c.limit * (length c.interfaces + 4) + 2 * length c.interfaces
