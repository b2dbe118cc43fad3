-- Nothing flows unasked: each copy of (S,G) on a link has an earlier event as its cause.
use Rattle.std.{specs.Prelude.{List, Ok, [], ◌≡◌}}
use Rattle.pim_types.{specs.declared.{config.Config.Config, event.Event.Event}}
use Rattle.pim_model.{specs.{Cause.{CopiesAreAsked, OutcomesAreAsked, past_after}, Limits.config_test, State.opening, Step.{outcome_of, run, state_after, step}}}

-- After any events from the opening with an accepted configuration, each copy that an event makes has a cause.
abbrev pub NothingFlowsUnasked : Type 0
NothingFlowsUnasked =
    (c : Config) (earlier : List Event) (e : Event) → config_test c ≡ Ok tt
    → CopiesAreAsked (past_after [] (opening c) earlier)
    (record { before = state_after (opening c) earlier; event = e })
    (outcome_of (step (state_after (opening c) earlier) e))

-- In the outcomes of a run each copy has a cause.
abbrev pub RunIsAsked : Type 0
RunIsAsked = (c : Config) (events : List Event) → config_test c ≡ Ok tt
    → OutcomesAreAsked [] (opening c) events (run (opening c) events)
