use Rattle.std.{proofs.Common.{◌≡◌, ◌≤◌, drop, length, true}}
use Rattle.pim_model.{specs.Limits.are_distinct_candidates}
use Rattle.pim_mrib.proofs.limits.are_distinct_candidates.Given as goal

-- the candidates from the place on are distinct
abbrev pub invariant-loop-left : goal.invariant-loop-left
invariant-loop-left l = record {
  within : l.left ≤ length l.candidates;
  distinct : are_distinct_candidates (drop l.left l.candidates) ≡ true;
}

abbrev pub decreases-loop-left : goal.decreases-loop-left
decreases-loop-left l = l.left
