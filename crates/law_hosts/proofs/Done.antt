-- What is done of an event is taken, and else nothing is changed.
use Rattle.std.{proofs.Common.{◌≡◌, ℕ, Bool, Option, None, Some, Ok, refl, sym, ap, subst, arith}}
use Rattle.pim_types.{specs.declared.event.Event.Event}
use Rattle.pim_model.{specs.{declared.accepted.Accepted.Accepted, Cause.{done_as, if_done}, Judging.{Judged, judged}, State.State, Step.{Answered, concluded, step, taken, taken_unless_full}}}
use Rattle.law_settled.{proofs.UnchangedLaws.{full_or_taken, taken_done}}
use Rattle.law_streams.{specs.Copies.happens, proofs.Made.step_taken}

full_unchanged : (s : State) (w : ℕ) (a : Accepted) (b : Bool) → if_done (full_or_taken s w a b).answer (Ok a) ≡ None
    → (full_or_taken s w a b).state ≡ s
full_unchanged s w a b e = grind (arith, taken_done)

concluded_unchanged : (s : State) (w : ℕ) (j : Judged) → if_done (concluded s (taken_unless_full s w) j).answer j ≡ None
    → (concluded s (taken_unless_full s w) j).state ≡ s
unfolding taken_unless_full
concluded_unchanged s w j e = grind (arith, full_unchanged)

pub not_done : (s : State) (e : Event) → done_as (happens s e) ≡ None → (step s e).state ≡ s
unfolding step done_as
not_done s e is = concluded_unchanged s e.draw (judged s e.kind) is

-- what holds of the state, and after what is taken, holds after the event
module _ (P : Option Accepted → State → Type 0) (s : State) (e : Event) (stays : P None s)
    (takes : (a : Accepted) → done_as (happens s e) ≡ Some a → P (Some a) (taken s e.draw a).state) where
  by_case : (o : Option Accepted) → done_as (happens s e) ≡ o → P o (step s e).state
  by_case None is = subst (P None) (sym (not_done s e is)) stays
  by_case (Some a) is = subst (P (Some a)) (sym (ap (λ (x : Answered). x.state) (step_taken s e a is))) (takes a is)

  pub after_event : P (done_as (happens s e)) (step s e).state
  after_event = by_case (done_as (happens s e)) refl
