-- No event changes the settings or what is configured.
use Rattle.std.{proofs.Common.{arith, ◌∙◌, ℕ, ◌+◌, ◌-◌, Bool, length, refl}}
use Rattle.pim_types.{specs.declared.event.Event.Event}
use Rattle.pim_model.{specs.{declared.accepted.Accepted.Accepted, Firing.{fire_all, fire_instant, fire_once}, Judging.{Judged, judged}, State.State, Step.{advanced, concluded, step, taken, taken_unless_full}, Timers.{Ending, next_due, timers}}}
use Rattle.law_settled.{proofs.{TurnLaws.kept_to_the_end, UnchangedLaws.full_or_taken}}
use Rattle.law_events.{proofs.{Reached.IsConfigured, Settled.{event_configured, fire_configured}}}

then_configured : (s t u : State) → IsConfigured s t → IsConfigured t u → IsConfigured s u
then_configured s t u f g = record { settings = f.settings ∙ g.settings; configured = f.configured ∙ g.configured }

itself : (s : State) → IsConfigured s s
itself s = record { settings = refl; configured = refl }

module _ (s : State) (w : ℕ) where
  instant_configured : (t : State) (e : Ending) → IsConfigured s t → IsConfigured s (fire_instant w t e).0
  unfolding fire_instant
  instant_configured t e f =
      kept_to_the_end (next_due e.end) (fire_once w) (IsConfigured s) (λ u d g there. then_configured s u (fire_once w u d).0 g (fire_configured u w d))
      (length (timers t) + 1) t f

  advanced_configured : (moment : ℕ) → IsConfigured s (advanced s w moment).state
  unfolding advanced fire_all
  advanced_configured moment =
      let f : IsConfigured s (fire_all w moment s).0 =
      kept_to_the_end (next_due moment) (fire_instant w) (IsConfigured s) (λ u d g there. instant_configured u d g)
      (moment + 2 - s.present) s (itself s) in
      record { settings = f.settings; configured = f.configured }

  taken_configured : (a : Accepted) → IsConfigured s (taken s w a).state
  unfolding taken
  taken_configured a = grind (arith, advanced_configured, event_configured)

  full_configured : (a : Accepted) (b : Bool) → IsConfigured s (full_or_taken s w a b).state
  full_configured a b = grind (arith, itself, taken_configured)

  concluded_configured : (j : Judged) → IsConfigured s (concluded s (taken_unless_full s w) j).state
  unfolding taken_unless_full
  concluded_configured j = grind (arith, itself, full_configured)

pub step_configured : (s : State) (e : Event) → IsConfigured s (step s e).state
unfolding step
step_configured s e = concluded_configured s e.draw (judged s e.kind)
