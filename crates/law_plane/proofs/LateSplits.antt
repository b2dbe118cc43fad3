-- A split data plane whose core hears late is as good as a router to which some packets come once more.
use Rattle.std.{proofs.Common.{◌≡◌, ◌≤◌, Bool, true, false, cond, List, [], ◌∷◌, length, refl, sym, subst, arith}}
use Rattle.pim_types.{specs.declared.{event.Event.Event, outcome.Outcome.Outcome}}
use Rattle.pim_model.{specs.{Judging.last_moment, Limits.most_ifaces, State.State, Step.{outcome_of, state_after, step}}}
use Rattle.law_events.{specs.Named.event_named, proofs.{Rest.{opening_is_at_rest, step_is_at_rest}, RowsOfSteps.step_stays_configured, RowsOfRuns.few_opening}}
use Rattle.law_plane.{specs.{Late.{LateRouterIsSound, LateSplitIsSound, is_the_cores, late_ran, late_step, owed_again, repeated_ran}, Split.{Split, split_step, whole}, SplitLaws.{caught_late, packets_of}, ToldLaws.{AreTold, told_anew}}, proofs.{Ends.no_ends, Orders.{ended_at, heard_at, late_follows}, Passes.{Passed, ended_by}, Splits.{Follows, Goes, caught, opening_is_early, step_goes, step_stays_early, whole_follows}, ToldRows.{opening_is_told, step_keeps_told}}}

module _ (x : Split) (r : State) (f : Follows x r) where
  -- what is owed came once more
  abbrev again : State
  again = state_after r (packets_of x.owed)

  passed : Passed x.core f.quiet (ended_at (ended_by no_ends x.owed) x.now x.owed) x.now again
  passed = heard_at x.core f.quiet x.now x.owed (ended_by no_ends x.owed) r f.is f.owed

  again_early : again.present ≤ last_moment
  again_early = subst (λ (t : State). t.present ≤ last_moment) (sym passed.same) f.early

  again_few : length again.configured.interfaces ≤ most_ifaces
  again_few = subst (λ (t : State). length t.configured.interfaces ≤ most_ifaces) (sym passed.same) f.few

  again_told : AreTold x.rows again
  again_told g src = grind (arith, passed)

  module _ (e : Event) where
    abbrev gone : State → Split × Outcome
    gone t = (whole (step t e).state (told_anew (event_named t e) (step t e).state x.rows), outcome_of (step t e))

    core_goes : Goes again e (gone (caught_late x))
    core_goes =
        grind (arith, late_follows, whole_follows, step_is_at_rest, passed, step_stays_early, again_early, step_stays_configured, again_few, step_keeps_told, again_told)

    by_whom : (b : Bool) → Goes (cond b again r) e (cond b (gone (caught_late x)) (split_step x e))
    by_whom true = core_goes
    by_whom false = step_goes x r f e

    late_goes : Goes (owed_again x r e) e (late_step x e)
    unfolding owed_again late_step
    late_goes = by_whom (is_the_cores x e)

late_run_goes : (events : List Event) (x : Split) (r : State) → Follows x r
    → ((late_ran x events).0 ≡ (repeated_ran x r events).0) × Follows (late_ran x events).1 (repeated_ran x r events).1
unfolding late_ran repeated_ran
late_run_goes [] x r f = (refl, f)
late_run_goes (e ∷ es) x r f =
    let first : Goes (owed_again x r e) e (late_step x e) = late_goes x r f e in
    let later : _ = late_run_goes es (late_step x e).0 (step (owed_again x r e) e).state first.0 in
    ((λ j. first.1 j ∷ later.0 j), later.1)

pub late_split_is_sound : LateSplitIsSound
late_split_is_sound s rows events rests early few told = grind (arith, late_run_goes, whole_follows, caught)

pub late_router_is_sound : LateRouterIsSound
late_router_is_sound c events e =
    grind (arith, late_split_is_sound, opening_is_at_rest, opening_is_early, few_opening, opening_is_told)
