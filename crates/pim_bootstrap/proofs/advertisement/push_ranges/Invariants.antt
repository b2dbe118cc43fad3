use Rattle.std.{proofs.Common.{◌≡◌, ◌++◌, take}, specs.List.flat_map}
use Rattle.pim_bootstrap.{specs.Advertisements.advertised_text}
use Rattle.pim_bootstrap.proofs.advertisement.push_ranges.Given as goal

-- the ranges so far are written
abbrev pub invariant-loop-range : goal.invariant-loop-range
invariant-loop-range l = l.out.items ≡ l.initial.out.items ++ flat_map advertised_text (take l.range-index l.ranges)
