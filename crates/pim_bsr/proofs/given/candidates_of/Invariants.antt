use Rattle.std.{proofs.Common.{◌≡◌, ◌++◌, drop, map, nat_le, true}, specs.List.list_all}
use Rattle.pim_types.{specs.declared.config.RpCandidate.RpCandidate}
use Rattle.pim_bsr.{specs.Table.candidate_of}
use Rattle.pim_bsr.proofs.given.candidates_of.Given as goal

abbrev pub invariant-loop-learned : goal.invariant-loop-learned
invariant-loop-learned l =
    (l.candidates.items ++ map candidate_of (drop l.learned-index l.rps) ≡ map candidate_of l.rps)
    × (list_all (λ (c : RpCandidate). nat_le c.priority 255) l.candidates.items ≡ true)
