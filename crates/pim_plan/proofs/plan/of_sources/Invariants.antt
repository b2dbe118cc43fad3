use Rattle.std.{proofs.Common.{◌≡◌, filter, not, take}}
use Rattle.pim_types.{specs.Keys.is_star}
use Rattle.pim_plan.proofs.plan.of_sources.Given as goal

abbrev pub invariant-loop-key : goal.invariant-loop-key
invariant-loop-key l = l.found.items ≡ filter (λ k. not (is_star k)) (take l.key-index l.keys)
