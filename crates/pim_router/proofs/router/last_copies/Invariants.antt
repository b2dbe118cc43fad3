use Rattle.std.{proofs.Common.{◌≡◌, fold, take}}
use Rattle.pim_types.{specs.declared.outcome.Outcome.Outcome}
use Rattle.pim_router.proofs.router.last_copies.Given as goal

abbrev pub invariant-loop-outcome : goal.invariant-loop-outcome
invariant-loop-outcome l = l.copies ≡ fold (λ n (o : Outcome). o.copies) l.before (take l.outcome-index l.outcomes)
