use Rattle.std.{proofs.Common.{◌≡◌, ◌≤◌}}
use Rattle.pim_candidate.{specs.Election.whole_log}
use Rattle.pim_candidate.proofs.election.whole_log.Given as goal

-- the logarithm is none of the powers above
abbrev pub invariant-loop-power : goal.invariant-loop-power
invariant-loop-power l = record {
  value : whole_log l.power l.number ≡ whole_log 32 l.number;
  small : l.power ≤ 32;
}

abbrev pub decreases-loop-power : goal.decreases-loop-power
decreases-loop-power l = l.power
