use Rattle.std.{proofs.Common.{◌≡◌, ◌≤◌, ◌++◌, length, take}, specs.List.flat_map}
use Rattle.pim_bootstrap.{specs.Bootstraps.candidate_text}
use Rattle.pim_bootstrap.proofs.fragments.push_candidates.Given as goal

-- the RPs so far are written
abbrev pub invariant-loop-candidate : goal.invariant-loop-candidate
invariant-loop-candidate l = record {
  text : l.out.items ≡ l.initial.out.items ++ flat_map candidate_text (take l.candidate-index l.rps);
  longer : length l.initial.out.items ≤ length l.out.items;
}
