use Rattle.std.{proofs.Common.{◌≡◌, drop}, specs.List.list_all}
use Rattle.pim_model.{specs.Limits.is_candidate}
use Rattle.pim_mrib.proofs.limits.each_is_candidate.Given as goal

abbrev pub invariant-loop-candidate : goal.invariant-loop-candidate
invariant-loop-candidate l = list_all is_candidate (drop l.candidate-index l.candidates) ≡ list_all is_candidate l.candidates
