use Rattle.std.{proofs.Common.{◌≡◌, ◌++◌, drop, map}}
use Rattle.pim_candidate.{specs.Candidacy.advertised_range}
use Rattle.pim_candidate.proofs.candidacy.telling.advertised_ranges.Given as goal

abbrev pub invariant-loop-prefix : goal.invariant-loop-prefix
invariant-loop-prefix l =
    l.ranges.items ++ map advertised_range (drop l.prefix-index l.prefixes) ≡ map advertised_range l.prefixes
