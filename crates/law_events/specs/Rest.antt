-- Between two events the router is at rest: its state is quiet and settled, and every event leaves it at rest.
use Rattle.std.{specs.Prelude.{List, Ok, ℕ, ◌≡◌}}
use Rattle.pim_types.{specs.declared.{config.Config.Config, event.Event.Event}}
use Rattle.pim_model.{specs.{Firing.{fire_all, fire_instant, fire_once}, Limits.config_test, State.{State, opening}, Step.{state_after, step}, Timers.Ending}}
use Rattle.law_settled.{specs.Ready.{IsLawful, IsSettled}}
use Rattle.law_events.{specs.Locality.IsQuiet}

-- At rest: no fact must go, all registers are settled, tables are in order, and all timers that are due at the present
-- time have expired.
pub record IsAtRest (s : State) : Type 0 where
  pub quiet : IsQuiet s
  pub settled : IsSettled s

-- ---- quiet

-- After one timer expired in a lawful state, the state is quiet, whatever is still due.
abbrev pub OneFiringQuiets : Type 0
OneFiringQuiets = (w : ℕ) (s : State) (e : Ending) → IsLawful s → IsQuiet (fire_once w s e).0

abbrev pub InstantIsQuiet : Type 0
InstantIsQuiet = (w : ℕ) (s : State) (e : Ending) → IsLawful s → IsQuiet s → IsQuiet (fire_instant w s e).0

abbrev pub FiringIsQuiet : Type 0
FiringIsQuiet = (w m : ℕ) (s : State) → IsLawful s → IsQuiet s → IsQuiet (fire_all w m s).0

-- Every event leaves a settled, quiet state quiet.
abbrev pub StepIsQuiet : Type 0
StepIsQuiet = (s : State) (e : Event) → IsSettled s → IsQuiet s → IsQuiet (step s e).state

-- ---- at rest

abbrev pub OpeningIsAtRest : Type 0
OpeningIsAtRest = (c : Config) → config_test c ≡ Ok tt → IsAtRest (opening c)

abbrev pub StepIsAtRest : Type 0
StepIsAtRest = (s : State) (e : Event) → IsAtRest s → IsAtRest (step s e).state

abbrev pub RunIsAtRest : Type 0
RunIsAtRest = (s : State) (events : List Event) → IsAtRest s → IsAtRest (state_after s events)
