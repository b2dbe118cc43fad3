-- What each step keeps, each run keeps.
use Rattle.std.{specs.Prelude.{List, [], ◌∷◌}}
use Rattle.pim_types.{specs.declared.event.Event.Event}
use Rattle.pim_model.{specs.{State.State, Step.{ran, state_after, step}}}

module _ (P : State → Type 0) (keeps : (s : State) (e : Event) → P s → P (step s e).state) where
  kept_by_ran : (events : List Event) (s : State) → P s → P (ran s events).1
  unfolding ran
  kept_by_ran [] s f = f
  kept_by_ran (e ∷ es) s f = kept_by_ran es (step s e).state (keeps s e f)

  pub kept_by_run : (s : State) (events : List Event) → P s → P (state_after s events)
  unfolding state_after
  kept_by_run s events f = kept_by_ran events s f
