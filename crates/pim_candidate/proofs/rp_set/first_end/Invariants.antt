use Rattle.std.{proofs.Common.{◌≡◌, drop, fold}}
use Rattle.pim_candidate.{specs.RpSet.{earlier, first_end}}
use Rattle.pim_candidate.proofs.rp_set.first_end.Given as goal

abbrev pub invariant-loop-one : goal.invariant-loop-one
invariant-loop-one l = fold earlier l.first (drop l.one-index l.held) ≡ first_end l.held
