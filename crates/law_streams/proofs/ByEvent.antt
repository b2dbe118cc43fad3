-- What an event leaves, by what each accepted message leaves that is taken.
use Rattle.std.{proofs.Common.{ℕ, Bool, true, false, Option, Some, Result, Ok, Err, subst}}
use Rattle.pim_ip.{specs.declared.refusal.Refusal.Refusal}
use Rattle.pim_types.{specs.declared.{event.Event.Event, outcome.{Stop.Stop, Verdict.Verdict}}}
use Rattle.pim_model.{specs.{declared.accepted.Accepted.Accepted, Cause.{done_as, if_done}, Full.is_full, Judging.{Judged, judged}, State.State, Step.{concluded, step, taken, taken_unless_full}}}
use Rattle.law_settled.{proofs.UnchangedLaws.{full_or_taken, taken_done}}
use Rattle.law_streams.{specs.Copies.happens}

-- It goes on to hold where nothing is against it (`Off`) in the state after the event and in what was accepted.
module _ (s : State) (Holds : State → Type 0) (Off : State → Option Accepted → Type 0) (f : Holds s)
    (taken_holds : (w : ℕ) (a : Accepted) → Off (taken s w a).state (Some a) → Holds (taken s w a).state) where
  full_holds : (w : ℕ) (a : Accepted) (b : Bool)
      → Off (full_or_taken s w a b).state (if_done (full_or_taken s w a b).answer (Ok a))
      → Holds (full_or_taken s w a b).state
  full_holds w a true off = f
  full_holds w a false off =
      taken_holds w a
      (subst (λ (x : Result Verdict Refusal). Off (taken s w a).state (if_done x (Ok a))) (taken_done s w a) off)

  concluded_holds : (w : ℕ) (j : Judged)
      → Off (concluded s (taken_unless_full s w) j).state (if_done (concluded s (taken_unless_full s w) j).answer j)
      → Holds (concluded s (taken_unless_full s w) j).state
  unfolding taken_unless_full
  concluded_holds w (Err (Stop.Refuse refusal)) off = f
  concluded_holds w (Err (Stop.Ignore reason)) off = f
  concluded_holds w (Ok a) off = full_holds w a (is_full s a) off

  pub event_holds : (e : Event) → Off (step s e).state (done_as (happens s e)) → Holds (step s e).state
  unfolding step done_as
  event_holds e off = concluded_holds e.draw (judged s e.kind) off
