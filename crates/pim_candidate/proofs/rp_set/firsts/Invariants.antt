use Rattle.std.{proofs.Common.{◌≡◌, drop, fold}}
use Rattle.pim_candidate.{specs.RpSet.{firsts, with_first}}
use Rattle.pim_candidate.proofs.rp_set.firsts.Given as goal

abbrev pub invariant-loop-one : goal.invariant-loop-one
invariant-loop-one l = fold with_first l.found.items (drop l.one-index l.held) ≡ firsts l.held
