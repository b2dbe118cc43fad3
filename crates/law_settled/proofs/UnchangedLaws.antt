-- A refused or ignored event changes nothing.
use Rattle.std.{specs.Prelude.{Bool, Err, Ok, Result, false, true, ℕ, ◌≡◌}, proofs.Common.arith}
use Rattle.pim_ip.{specs.declared.refusal.Refusal.Refusal}
use Rattle.pim_types.{specs.declared.outcome.{Stop.Stop, Verdict.Verdict}}
use Rattle.pim_model.{specs.{declared.accepted.Accepted.Accepted, Judging.{Judged, judged}, State.State, Step.{Answered, advanced, concluded, done, step, stopped, taken, taken_unless_full}}}
use Rattle.law_settled.{specs.Laws.{IgnoredEventChangesNothing, IsUnchanged, RefusedEventChangesNothing}}

-- an answer other than Done
abbrev IsStop : Result Verdict Refusal → Type 0
IsStop (Err refusal) = Unit {0}
IsStop (Ok (Verdict.Ignored reason)) = Unit {0}
IsStop (Ok Verdict.Done) = ⊥

stop_unchanged : (s : State) (stop : Stop) → IsUnchanged s (stopped s stop)
stop_unchanged s stop = grind arith

-- what is taken is done
pub taken_done : (s : State) (w : ℕ) (a : Accepted) → (taken s w a).answer ≡ Ok Verdict.Done
unfolding taken advanced done
taken_done s w a = grind arith

abbrev pub full_or_taken : State → ℕ → Accepted → Bool → Answered
full_or_taken s w a b = elim b [ true ↦ stopped s (Stop.Refuse Refusal.Full) | false ↦ taken s w a ]

full_or_done : (s : State) (w : ℕ) (a : Accepted) (b : Bool) → IsStop (full_or_taken s w a b).answer
    → IsUnchanged s (full_or_taken s w a b)
full_or_done s w a b held = grind (arith, stop_unchanged, taken_done)

concluded_unchanged : (s : State) (w : ℕ) (j : Judged) → IsStop (concluded s (taken_unless_full s w) j).answer
    → IsUnchanged s (concluded s (taken_unless_full s w) j)
unfolding taken_unless_full
concluded_unchanged s w j held = grind (arith, stop_unchanged, full_or_done)

pub refused_unchanged : RefusedEventChangesNothing
unfolding step
refused_unchanged s e refusal is = concluded_unchanged s e.draw (judged s e.kind) (rw is tt)

pub ignored_unchanged : IgnoredEventChangesNothing
unfolding step
ignored_unchanged s e reason is = concluded_unchanged s e.draw (judged s e.kind) (rw is tt)
