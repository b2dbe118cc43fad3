-- For which trees a router goes on sending Joins: a Join timer runs exactly where its tree is wanted.
use Rattle.std.{specs.Prelude.{List, ℕ, ◌≡◌}}
use Rattle.pim_types.{specs.{Keys.{source_key, star_key}, declared.{config.Config.Config, event.Event.Event}}}
use Rattle.pim_model.{specs.{Desires.{join_desired, join_desired_star}, Firing.fire_once, State.{State, opening}, Step.{state_after, step}, Tables.has_row, Timers.Ending}}

-- A Join timer runs exactly where its tree is wanted.
pub record AreTimed (s : State) : Type 0 where
  pub stars : (g : ℕ) → has_row s.join_timers (star_key 0 g) ≡ join_desired_star s g
  pub sources : (g src : ℕ) → has_row s.join_timers (source_key 0 g src) ≡ join_desired s g src

-- Every event, and the expiry of every timer, leaves a state in which a Join timer runs exactly where its tree is
-- wanted.
abbrev pub StepKeepsTimed : Type 0
StepKeepsTimed = (s : State) (e : Event) → AreTimed s → AreTimed (step s e).state

-- The expiry of every timer leaves a state in which a Join timer runs exactly where its tree is wanted.
abbrev pub FiringKeepsTimed : Type 0
FiringKeepsTimed = (w : ℕ) (s : State) (e : Ending) → AreTimed s → AreTimed (fire_once w s e).0

-- In every run a Join timer runs exactly where its tree is wanted.
abbrev pub RunIsTimed : Type 0
RunIsTimed = (config : Config) (events : List Event) → AreTimed (state_after (opening config) events)
