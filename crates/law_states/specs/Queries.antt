-- While the router is the querier of an interface, the next general query leaves within the query interval in force.
use Rattle.std.{specs.Prelude.{List, [], map, true, ℕ, ◌≡◌}}
use Rattle.pim_types.{specs.declared.{config.{Config.Config}, event.Event.Event}}
use Rattle.pim_model.{specs.{State.{Addressing, State}, Step.step, Writing.write_all}}
use Rattle.law_events.{specs.Rest.IsAtRest}
use Rattle.law_states.{specs.{Reload.config_of, ReloadLaws.{AreConfigured, AreNew, appended, next_query_is_near, with_addressing, with_more, without_delays}, Reloading.{hellos_anew, reload}, History.{Given, IsLedTo}}}

-- Every event keeps it.
abbrev pub NextQueryStaysNear : Type 0
NextQueryStaysNear = (s : State) (e : Event) → IsAtRest s → next_query_is_near s ≡ true
    → next_query_is_near (step s e).state ≡ true

-- It is so after any events and reloads.
abbrev pub LedQueriesAreNear : Type 0
LedQueriesAreNear = (c : Config) (before : List Given) (s : State) → IsLedTo c before s → next_query_is_near s ≡ true

-- ---- reloads after any events and reloads

-- A reload with the configuration that there is changes nothing, and sends nothing.
abbrev pub SameReloadLeavesLed : Type 0
SameReloadLeavesLed = (c : Config) (before : List Given) (s : State) (w : ℕ) → IsLedTo c before s
    → reload s (config_of s) w ≡ (s, [])

-- Interfaces, and own addresses of no interface, that are appended move no fact, and nothing is sent.
abbrev pub AppendedLeaveLed : Type 0
AppendedLeaveLed = (c : Config) (before : List Given) (s : State) (more : Addressing) (w : ℕ) → IsLedTo c before s
    → AreConfigured s → AreNew s more → reload s (with_more s more) w ≡ (record s { configured = appended s.configured more }, [])

-- Other delays alone move no fact, and nothing is sent but their Hellos.
abbrev pub DelaysLeaveLed : Type 0
DelaysLeaveLed = (c : Config) (before : List Given) (s : State) (configured : Addressing) (w : ℕ) → IsLedTo c before s
    → map without_delays configured.interfaces ≡ map without_delays s.configured.interfaces
    → configured.addresses ≡ s.configured.addresses → AreConfigured s
    → reload s (with_addressing s configured) w ≡ write_all (record s { configured = configured }) (hellos_anew s configured)
