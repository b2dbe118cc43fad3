-- No more sources are named than are reached: of what was accepted, and of any event.
use Rattle.std.{proofs.Common.{◌≡◌, ℕ, ◌≤◌, Bool, true, Ok, length, arith}}
use Rattle.pim_types.{specs.declared.event.Event.Event}
use Rattle.pim_model.{specs.{declared.accepted.Accepted.Accepted, Full.is_full, Judging.{Judged, judged}, Reach.{event_reach, keeps_neighbours, reach_of, where_accepted}, State.State, Step.{concluded, step, taken, taken_unless_full}}}
use Rattle.law_settled.{proofs.UnchangedLaws.full_or_taken, specs.Ready.IsLawful}
use Rattle.law_events.{specs.{Calm.is_calm_event, Named.{event_named, named_of}}, proofs.{Advance.few_all, CalmFiring.calm_by_end, Configured.change_configured, Reached.named_within}}

few_named : (s : State) (w : ℕ) (a : Accepted) → is_calm_event s w a ≡ true
    → length (named_of s w a) ≤ length (reach_of s w a)
unfolding is_calm_event named_of reach_of
few_named s w a calm = grind (arith, few_all, named_within, change_configured)

pub named_are_few : (s : State) → IsLawful s → (w : ℕ) (a : Accepted) → keeps_neighbours s (taken s w a).state ≡ true
    → length (named_of s w a) ≤ length (reach_of s w a)
named_are_few s lawful w a kept = few_named s w a (calm_by_end s lawful w a kept)

module _ (s : State) (lawful : IsLawful s) (w : ℕ) where
  unless_full : (a : Accepted) (b : Bool) → is_full s a ≡ b → keeps_neighbours s (full_or_taken s w a b).state ≡ true
      → length (where_accepted s (named_of s w) (Ok a)) ≤ length (where_accepted s (reach_of s w) (Ok a))
  unless_full a b e kept = grind (arith, named_are_few)

  by_judgement : (j : Judged) → keeps_neighbours s (concluded s (taken_unless_full s w) j).state ≡ true
      → length (where_accepted s (named_of s w) j) ≤ length (where_accepted s (reach_of s w) j)
  unfolding taken_unless_full
  by_judgement j kept = grind (arith, unless_full)

pub event_names_few : (s : State) → IsLawful s → (e : Event) → keeps_neighbours s (step s e).state ≡ true
    → length (event_named s e) ≤ length (event_reach s e)
unfolding event_named event_reach step
event_names_few s lawful e kept = by_judgement s lawful e.draw (judged s e.kind) kept
