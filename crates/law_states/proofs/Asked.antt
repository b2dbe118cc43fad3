-- Nothing flows unasked, whatever events and reloads came before.
use Rattle.std.{proofs.Common.{ℕ, ◌+◌, List, [], ◌∷◌, refl, sym, subst}}
use Rattle.pim_types.{specs.declared.{config.Config.Config, event.Event.Event}}
use Rattle.law_events.{specs.Rest.IsAtRest, proofs.Rest.step_is_at_rest}
use Rattle.pim_model.{specs.{Cause.{OutcomesAreAsked, Passed, Past, happened, past_after}, Registers.keepalive_period, State.{State, opening}, Step.{ran, run, state_after, step}}}
use Rattle.law_streams.{proofs.{CausesAsks.IsAsked, Fired.all_same, Past.CausedBy, Same.Same, Steps.{opening_asked, step_asked}}}
use Rattle.law_plane.{specs.Keeping.{keep, kept_until}, proofs.Keeps.keep_by}
use Rattle.law_states.{specs.{Reloading.{reload, removals}, Placing.reload_by, History.{AreAccepted, Given, past_given, state_given}, HistoryLaws.{CallIsAsked, NothingFlowsUnaskedOverReloads}}, proofs.{Led.{Led, is_led, keep_led, opening_led, placed_led, reload_led, step_led}, HistoryPlaced.{placed_reload_asked, replaced_asked}}}

-- ---- events

outcomes_asked : (events : List Event) (past : Past) (s : State) → IsAsked (CausedBy past) s → IsAtRest s
    → OutcomesAreAsked past s events (run s events)
unfolding run ran
outcomes_asked [] past s f rest = tt
outcomes_asked (x ∷ xs) past s f rest = (
  (step_asked past s x f rest.settled).copies,
  outcomes_asked xs (happened s x ∷ past) (step s x).state (step_asked past s x f rest.settled).rows
      (step_is_at_rest s x rest),
)

run_asked : (events : List Event) (past : Past) (s : State) → IsAsked (CausedBy past) s → IsAtRest s
    → IsAsked (CausedBy (past_after past s events)) (state_after s events)
unfolding state_after ran past_after
run_asked [] past s f rest = f
run_asked (x ∷ xs) past s f rest =
    run_asked xs (happened s x ∷ past) (step s x).state (step_asked past s x f rest.settled).rows
    (step_is_at_rest s x rest)

-- ---- a reload

reload_asked : (past : Past) (s : State) (c : Config) (w : ℕ) → IsAsked (CausedBy past) s → IsAtRest s
    → IsAsked (CausedBy (past_after past s (removals s c w))) (reload s c w).0
unfolding reload state_after
reload_asked past s c w f rest =
    let after : Past = past_after past s (removals s c w) in
    replaced_asked (CausedBy after) w (state_after s (removals s c w)) c (run_asked (removals s c w) past s f rest)

-- ---- what a plane reports

kept_same : (s : State) (g src end : ℕ) → Same s (kept_until s g src end)
unfolding kept_until
kept_same s g src end = refl

keep_same : (s : State) (g src m : ℕ) → Same s (keep s g src m)
keep_same s g src m = keep_by s g src m (Same s) refl (λ end e sooner. kept_same s g src (m + keepalive_period))

keep_asked : (past : Past) (s : State) (g src m : ℕ) → IsAsked (CausedBy past) s → IsAsked (CausedBy past) (keep s g src m)
keep_asked past s g src m f = all_same (CausedBy past) s (keep s g src m) (keep_same s g src m) f

-- ---- one after the other

given_asked : (before : List Given) (past : Past) (s : State) → IsAsked (CausedBy past) s → Led s → AreAccepted s before
    → IsAsked (CausedBy (past_given past s before)) (state_given s before)
unfolding past_given state_given
given_asked [] past s f led accepted = f
given_asked (Given.Happening e ∷ later) past s f led accepted =
    given_asked later (happened s e ∷ past) (step s e).state (step_asked past s e f led.rest.settled).rows (step_led s e led) accepted
given_asked (Given.Reload c w ∷ later) past s f led accepted =
    given_asked later (past_after past s (removals s c w)) (reload s c w).0 (reload_asked past s c w f led.rest)
    (reload_led s c w accepted.0 led) accepted.1
given_asked (Given.Placed m c w ∷ later) past s f led accepted =
    given_asked later (Passed.Renumbered m ∷ past) (reload_by s m c w).0
    (placed_reload_asked past s m c w accepted.1 accepted.0 led f) (placed_led s m c w accepted.0 accepted.1 led) accepted.2
given_asked (Given.Kept g src m ∷ later) past s f led accepted =
    given_asked later past (keep s g src m) (keep_asked past s g src m f) (keep_led s g src m led) accepted

pub nothing_flows_unasked_over_reloads : NothingFlowsUnaskedOverReloads
nothing_flows_unasked_over_reloads c before s events led =
    let f : IsAsked (CausedBy (past_given [] (opening c) before)) (state_given (opening c) before) =
    given_asked before [] (opening c) (opening_asked c) (opening_led c led.accepted) led.reloads in
    outcomes_asked events (past_given [] (opening c) before) s
    (subst (IsAsked (CausedBy (past_given [] (opening c) before))) (sym led.led) f) (is_led c before s led).rest

-- one event is a run of one
pub call_is_asked : CallIsAsked
unfolding run ran
call_is_asked c before s e led = (nothing_flows_unasked_over_reloads c before s (e ∷ []) led).0
