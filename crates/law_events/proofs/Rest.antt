-- Every event leaves a quiet state quiet: what follows from its change settles, and time alone touches nothing.
use Rattle.std.{proofs.Common.{◌≡◌, ℕ, ◌+◌, Bool, List, Ok, length, rules}}
use Rattle.pim_types.{specs.declared.{config.Config.Config, event.Event.Event}}
use Rattle.pim_model.{specs.{declared.accepted.Accepted.Accepted, Firing.{fire_all, fire_instant, fire_once, fired}, Limits.config_test, Messages.Message, State.{State, is_up, opening}, Step.{Change, advanced, change, done, state_after, step}, Timers.{Ending, next_due, timers}}}
use Rattle.law_settled.{proofs.{Parts.Sources, StepLaws.kept_by_run, TurnLaws.kept_to_the_end, Changes.change_fine, FineStates.{Anyhow, IsFine}, Firing.{any, any_late, at_moment, fired_fine}, Judgements.IsHere, LawfulFiring.{lawful_is_sound, one_firing_is_lawful}, RisingKeys.sorted_of_up, SettledStates.settled_is_lawful, Steps.{after_event, opening_is_settled, step_is_settled}}, specs.Ready.{IsLawful, IsSettled}}
use Rattle.law_events.{specs.{Locality.{AreOnce, IsQuiet}, Rest.IsAtRest}, proofs.{OwnKeys.{opening_is_quiet, present_touches_none, sources_once}, QuietStates.quiet_goes_on, SettledRegisters.settling_quiets}}

-- the sources of a fine state are listed once
once_of_fine : (m : ℕ) (late up : ℕ → Bool) (s : State) → IsFine m late up s → AreOnce s.sources
once_of_fine m late up s f = sources_once s.sources (sorted_of_up s.sources (f.tables Sources).up)

-- ---- timers

pub one_firing_quiets : (w : ℕ) (s : State) (e : Ending) → IsLawful s → IsQuiet (fire_once w s e).0
unfolding fire_once
one_firing_quiets w s e f =
    let opened : State = record s { present = e.end } in
    let change : State × List Message = fired opened e.timer.kind e.timer.key in
    settling_quiets s change w
    (once_of_fine e.end any (is_up s) change.0
    (fired_fine e.end any (is_up s) (any_late e.end) opened e.timer.kind e.timer.key
    (at_moment s.present e.end any (is_up s) s (lawful_is_sound s f))))

-- lawful, and quiet
abbrev IsLawfulQuiet : State → Type 0
IsLawfulQuiet s = IsLawful s × IsQuiet s

instant_keeps : (w : ℕ) (s : State) (e : Ending) → IsLawfulQuiet s → IsLawfulQuiet (fire_instant w s e).0
unfolding fire_instant
instant_keeps w s e f =
    kept_to_the_end (next_due e.end) (fire_once w) IsLawfulQuiet
    (λ t d g there. (one_firing_is_lawful w t d g.0, one_firing_quiets w t d g.0)) (length (timers s) + 1) s f

pub instant_is_quiet : (w : ℕ) (s : State) (e : Ending) → IsLawful s → IsQuiet s → IsQuiet (fire_instant w s e).0
instant_is_quiet w s e f quiet = (instant_keeps w s e (f, quiet)).1

pub firing_is_quiet : (w m : ℕ) (s : State) → IsLawful s → IsQuiet s → IsQuiet (fire_all w m s).0
unfolding fire_all
firing_is_quiet w m s f quiet =
    (kept_to_the_end (next_due m) (fire_instant w) IsLawfulQuiet (λ t e g there. instant_keeps w t e g) _ s
    (f, quiet)).1

-- ---- events

module _ (s : State) (f : IsSettled s) (w : ℕ) where
  -- where the present alone moves, no key is touched
  advanced_is_quiet : IsQuiet s → (moment : ℕ) → IsQuiet (advanced s w moment).state
  unfolding advanced
  advanced_is_quiet quiet moment =
      let fires : State = (fire_all w moment s).0 in
      quiet_goes_on fires (record fires { present = moment }) (present_touches_none fires moment)
      (firing_is_quiet w moment s (settled_is_lawful s f) quiet)

  done_is_quiet : (a : Accepted) → IsHere (is_up s) a → IsQuiet (done s w (change s w a)).state
  unfolding done
  done_is_quiet a here =
      let c : Change = change s w a in
      let after : Anyhow s.present any c.state =
      change_fine s.present any (is_up s) (any_late s.present) s (lawful_is_sound s (settled_is_lawful s f)) w a here in
      settling_quiets s (c.state, c.messages) w (once_of_fine s.present any after.ups c.state after.fine)

pub step_is_quiet : (s : State) (e : Event) → IsSettled s → IsQuiet s → IsQuiet (step s e).state
step_is_quiet s e f quiet =
    after_event IsQuiet s e quiet (advanced_is_quiet s f e.draw quiet) (done_is_quiet s f e.draw)

-- ---- at rest

pub opening_is_at_rest : (c : Config) → config_test c ≡ Ok tt → IsAtRest (opening c)
opening_is_at_rest c e = record { quiet = opening_is_quiet c; settled = opening_is_settled c e }

pub step_is_at_rest : (s : State) (e : Event) → IsAtRest s → IsAtRest (step s e).state
step_is_at_rest s e f = search (rules, step_is_quiet, step_is_settled)

pub run_is_at_rest : (s : State) (events : List Event) → IsAtRest s → IsAtRest (state_after s events)
run_is_at_rest s events f = kept_by_run IsAtRest step_is_at_rest s events f
