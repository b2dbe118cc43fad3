-- A run in two parts.
use Rattle.std.{proofs.Common.{◌≡◌, List, [], ◌∷◌, ◌++◌, refl, sym, ap, subst, ◌∙◌}}
use Rattle.pim_types.{specs.declared.{event.Event.Event, outcome.Outcome.Outcome}}
use Rattle.law_streams.{proofs.Steps.run_is_asked}
use Rattle.pim_model.{specs.{Cause.{OutcomesAreAsked, Past, happened, past_after}, State.{State, opening}, Step.{outcome_of, ran, run, state_after, step}}}
use Rattle.pim_saved.{proofs.{Spelled.ok_is, SpelledStates.text_is_read}}
use Rattle.law_states.{specs.Restart.{LaterRunIsAsked, LaterStateIsReached, RestartChangesNothing, RestartIsAsked}}

pub in_two : (s : State) (before after : List Event) → run s (before ++ after) ≡ run s before ++ run (state_after s before) after
unfolding run state_after ran
in_two s [] after = refl
in_two s (e ∷ before) after = ap (λ (os : List Outcome). outcome_of (step s e) ∷ os) (in_two (step s e).state before after)

pub restart_changes_nothing : RestartChangesNothing
restart_changes_nothing c before after s fits read =
    let same : state_after (opening c) before ≡ s =
    ok_is (state_after (opening c) before) s (sym (text_is_read (state_after (opening c) before) fits) ∙ read) in
    in_two (opening c) before after ∙ ap (λ (t : State). run (opening c) before ++ run t after) same

pub restart_is_asked : RestartIsAsked
restart_is_asked c before after s e fits read =
    subst (λ (os : List Outcome). OutcomesAreAsked [] (opening c) (before ++ after) os)
    (restart_changes_nothing c before after s fits read) (run_is_asked c (before ++ after) e)

asked_later : (past : Past) (s : State) (before after : List Event) → OutcomesAreAsked past s (before ++ after) (run s (before ++ after))
    → OutcomesAreAsked (past_after past s before) (state_after s before) after (run (state_after s before) after)
unfolding run ran state_after past_after
asked_later past s [] after h = h
asked_later past s (e ∷ before) after h = asked_later (happened s e ∷ past) (step s e).state before after h.1

pub later_run_is_asked : LaterRunIsAsked
later_run_is_asked c before after e = asked_later [] (opening c) before after (run_is_asked c (before ++ after) e)

pub later_state_is_reached : LaterStateIsReached
unfolding ran state_after
later_state_is_reached o [] after = refl
later_state_is_reached o (e ∷ before) after = later_state_is_reached (step o e).state before after
