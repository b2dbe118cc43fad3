-- The next end tells whether all lie ahead.
use Rattle.std.{proofs.{Common.{◌≡◌, ℕ, Bool, true, false, nat_lt, Option, Some, None, refl, sym, ◌∙◌, arith}, lemmas.Bool.Decides.nat_tests}, specs.Option.option_map_or}
use Rattle.pim_model.{specs.{State.State, Timers.{Ending, is_ending_first, next_due, next_ending, timers}}}
use Rattle.law_settled.{specs.Laws.{due_by, ends_after}, proofs.{ListLaws.{each_of_list, first_of_all}, TimerLaws.{all_later, next_due_is_next, shown_after}}}
use Rattle.law_states.{specs.Resting.NextTellsAhead}

ahead_where_none : (m : ℕ) (s : State) → next_due m s ≡ None → ends_after m s ≡ true
ahead_where_none m s none = shown_after m s (all_later m s none)

-- an end that is next lies ahead where all do
next_is_ahead : (m : ℕ) (s : State) (e : Ending) → ends_after m s ≡ true → next_ending s ≡ Some e → nat_lt m e.end ≡ true
unfolding next_ending
next_is_ahead m s e all next =
    first_of_all is_ending_first (λ (d : Ending). nat_lt m d.end ≡ true) (timers s)
    (each_of_list (λ (d : Ending). nat_lt m d.end) (timers s) all) e next

not_due : (m : ℕ) (e : Ending) → nat_lt m e.end ≡ true → due_by m (Some e) ≡ None
not_due m e h = grind (arith, nat_tests)

both_tell : (a b : Bool) → (b ≡ true → a ≡ true) → (a ≡ true → b ≡ true) → a ≡ b
both_tell true true f g = refl
both_tell true false f g = sym (g refl)
both_tell false true f g = f refl
both_tell false false f g = refl

pub next_tells_ahead : NextTellsAhead
next_tells_ahead s = go (next_ending s) refl
  where
    go : (o : Option Ending) → next_ending s ≡ o → ends_after s.present s ≡ option_map_or (λ (e : Ending). nat_lt s.present e.end) o true
    go None e = ahead_where_none s.present s (next_due_is_next s.present s ∙ (λ j. due_by s.present (e j)))
    go (Some d) e =
        both_tell (ends_after s.present s) (nat_lt s.present d.end)
        (λ h. ahead_where_none s.present s (next_due_is_next s.present s ∙ (λ j. due_by s.present (e j)) ∙ not_due s.present d h))
        (λ all. next_is_ahead s.present s d all e)
