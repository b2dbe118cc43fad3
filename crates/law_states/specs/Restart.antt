-- A state that was saved between two events, and goes on where it is read again.
use Rattle.std.{specs.Prelude.{List, Ok, [], true, ◌++◌, ◌≡◌}}
use Rattle.pim_types.{specs.declared.{config.Config.Config, event.Event.Event}}
use Rattle.pim_model.{specs.{Cause.{OutcomesAreAsked, past_after}, Limits.{config_test, are_candidates}, State.{State, opening}, Step.{run, state_after, step}}}
use Rattle.pim_saved.{specs.{Fits.FitsState, Reading.reading, Text.text}}
use Rattle.law_states.{specs.{Reload.config_of, Resting.is_at_rest}}

-- each state of a run passes the test of rest
abbrev pub SavedIsAtRest : Type 0
SavedIsAtRest = (c : Config) (events : List Event) → config_test c ≡ Ok tt
    → is_at_rest (state_after (opening c) events) ≡ true

-- What is read of the bytes that were saved after the first events goes on as the run without a break does. The premise
-- is that numbers of that state fit their widths, as those of a saved router do.
abbrev pub RestartChangesNothing : Type 0
RestartChangesNothing = (c : Config) (before after : List Event) (s : State)
    → FitsState (state_after (opening c) before) → reading (text (state_after (opening c) before)) ≡ Ok s
    → run (opening c) (before ++ after) ≡ run (opening c) before ++ run s after

-- nothing flows unasked over a restart: the causes of later copies are among the events before it
abbrev pub RestartIsAsked : Type 0
RestartIsAsked = (c : Config) (before after : List Event) (s : State) → config_test c ≡ Ok tt
    → FitsState (state_after (opening c) before) → reading (text (state_after (opening c) before)) ≡ Ok s
    → OutcomesAreAsked [] (opening c) (before ++ after) (run (opening c) before ++ run s after)

-- what a router promises of the run of a new router, it promises of the run of one that was restored: the past of a
-- state is that of the events that led to it
abbrev pub LaterRunIsAsked : Type 0
LaterRunIsAsked = (c : Config) (before after : List Event) → config_test c ≡ Ok tt
    → OutcomesAreAsked (past_after [] (opening c) before) (state_after (opening c) before) after
    (run (state_after (opening c) before) after)

-- what holds of each state that the opening leads to holds of those that a restored one leads to
abbrev pub LaterStateIsReached : Type 0
LaterStateIsReached = (o : State) (before after : List Event)
    → state_after (state_after o before) after ≡ state_after o (before ++ after)

-- the configuration that a state of a run is under is accepted, whatever routes and RP ranges came
abbrev pub SavedIsAccepted : Type 0
SavedIsAccepted = (c : Config) (events : List Event) → config_test c ≡ Ok tt
    → config_test (config_of (state_after (opening c) events)) ≡ Ok tt

-- each event leaves a state under a configuration that is accepted, where it was under one before
abbrev pub AcceptedStays : Type 0
AcceptedStays = (s : State) (e : Event) → config_test (config_of s) ≡ Ok tt
    → config_test (config_of (step s e).state) ≡ Ok tt

-- the candidates of a state of a run are accepted, whatever events came
abbrev pub SavedCandidatesAreAccepted : Type 0
SavedCandidatesAreAccepted = (c : Config) (events : List Event)
    → are_candidates (state_after (opening c) events).ranges.candidates ≡ true

-- each event leaves candidates that are accepted, where they were before
abbrev pub CandidatesStayAccepted : Type 0
CandidatesStayAccepted = (s : State) (e : Event) → are_candidates s.ranges.candidates ≡ true
    → are_candidates (step s e).state.ranges.candidates ≡ true
