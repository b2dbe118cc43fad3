-- What led a router to its state: events, reloads with other configurations, by a map of places or without one, and what a
-- plane reported by `keep`.
use Rattle.std.{specs.Prelude.{List, Ok, [], length, max, true, ℕ, ◌≡◌, ◌∷◌}}
use Rattle.pim_types.{specs.declared.{config.Config.Config, event.Event.Event}}
use Rattle.pim_model.{specs.{Cause.{Passed, Past, happened, past_after}, Limits.config_test, State.{State, iface_count, opening}, Step.step}}
use Rattle.law_states.{specs.{Reloading.{reload, removals}, Placing.{Places, are_places, reload_by}}}
use Rattle.law_plane.{specs.Keeping.keep}

-- What a router is given: an event; another configuration, with the draw of its reload; the same with a map of places; or
-- that a plane forwarded packets of a group and a source up to a timestamp.
pub data Given : Type 0 where
  Happening : Event → Given
  Reload : Config → ℕ → Given
  Placed : Places → Config → ℕ → Given
  Kept : ℕ → ℕ → ℕ → Given

-- The state after events and reloads, from a state on.
unfoldable pub state_given : State → List Given → State
state_given s [] = s
state_given s (Given.Happening e ∷ later) = state_given (step s e).state later
state_given s (Given.Reload c w ∷ later) = state_given (reload s c w).0 later
state_given s (Given.Placed m c w ∷ later) = state_given (reload_by s m c w).0 later
state_given s (Given.Kept g src m ∷ later) = state_given (keep s g src m) later

-- The past of a router after events and reloads. The events of a reload are those by which interfaces go down. By a map of
-- places interfaces get other numbers, and those that it leaves out have none.
unfoldable pub past_given : Past → State → List Given → Past
past_given past s [] = past
past_given past s (Given.Happening e ∷ later) = past_given (happened s e ∷ past) (step s e).state later
past_given past s (Given.Reload c w ∷ later) =
    past_given (past_after past s (removals s c w)) (reload s c w).0 later
past_given past s (Given.Placed m c w ∷ later) = past_given (Passed.Renumbered m ∷ past) (reload_by s m c w).0 later
past_given past s (Given.Kept g src m ∷ later) = past_given past (keep s g src m) later

-- From a state on the configuration of each reload is accepted, and each map of places passes its tests.
abbrev pub AreAccepted : State → List Given → Type 0
AreAccepted s [] = Unit {0}
AreAccepted s (Given.Happening e ∷ later) = AreAccepted (step s e).state later
AreAccepted s (Given.Reload c w ∷ later) = (config_test c ≡ Ok tt) × AreAccepted (reload s c w).0 later
AreAccepted s (Given.Placed m c w ∷ later) =
    (config_test c ≡ Ok tt) × (are_places (iface_count s) (length c.interfaces) m ≡ true)
    × AreAccepted (reload_by s m c w).0 later
AreAccepted s (Given.Kept g src m ∷ later) = AreAccepted (keep s g src m) later

-- The greatest of a limit and those of the reloads.
unfoldable pub greatest_limit : ℕ → List Given → ℕ
greatest_limit limit [] = limit
greatest_limit limit (Given.Happening e ∷ later) = greatest_limit limit later
greatest_limit limit (Given.Reload c w ∷ later) = greatest_limit (max limit c.limit) later
greatest_limit limit (Given.Placed m c w ∷ later) = greatest_limit (max limit c.limit) later
greatest_limit limit (Given.Kept g src m ∷ later) = greatest_limit limit later

-- The greatest of a number of interfaces and those of the reloads.
unfoldable pub greatest_count : ℕ → List Given → ℕ
greatest_count count [] = count
greatest_count count (Given.Happening e ∷ later) = greatest_count count later
greatest_count count (Given.Reload c w ∷ later) = greatest_count (max count (length c.interfaces)) later
greatest_count count (Given.Placed m c w ∷ later) = greatest_count (max count (length c.interfaces)) later
greatest_count count (Given.Kept g src m ∷ later) = greatest_count count later

-- Events and reloads led a new router of the configuration to the state; all configurations and maps are accepted.
pub record IsLedTo (c : Config) (before : List Given) (s : State) : Type 0 where
  pub accepted : config_test c ≡ Ok tt
  pub reloads : AreAccepted (opening c) before
  pub led : s ≡ state_given (opening c) before
