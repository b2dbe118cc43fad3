use Rattle.std.{proofs.Common.{◌≡◌, drop}, specs.List.list_any}
use Rattle.pim_model.{specs.Limits.same_candidate}
use Rattle.pim_mrib.proofs.limits.is_listed.Given as goal

abbrev pub invariant-loop-other : goal.invariant-loop-other
invariant-loop-other l = list_any (same_candidate l.candidate) (drop l.other-index l.candidates) ≡ list_any (same_candidate l.candidate) l.candidates
