use Rattle.std.{proofs.Common.{◌≡◌, ℕ, Option, Some, drop, fold}}
use Rattle.pim_bsr.{specs.{Joined.{earlier, first_end}, declared.learned.Learned.Learned}}
use Rattle.pim_bsr.proofs.given.first_end.Given as goal

abbrev pub invariant-loop-learned : goal.invariant-loop-learned
invariant-loop-learned l =
    fold (λ (first : Option ℕ) (learned : Learned). Some (earlier learned.end first)) l.first (drop l.learned-index l.rps) ≡ first_end l.rps
