use Rattle.std.{proofs.Common.{◌≡◌, ◌≤◌, drop, length}}
use Rattle.pim_model.{specs.Candidates.chosen_among}
use Rattle.pim_mrib.proofs.choice.chosen_among.Given as goal

-- the best of the candidates from the place on
abbrev pub invariant-loop-left : goal.invariant-loop-left
invariant-loop-left l = record {
  within : l.left ≤ length l.candidates;
  best : l.best ≡ chosen_among (drop l.left l.candidates) l.group.bits;
}

abbrev pub decreases-loop-left : goal.decreases-loop-left
decreases-loop-left l = l.left
