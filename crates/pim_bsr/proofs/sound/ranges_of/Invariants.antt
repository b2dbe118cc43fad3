use Rattle.std.{proofs.Common.{◌≡◌, ◌++◌, drop, map}}
use Rattle.pim_bsr.{specs.Table.range_of}
use Rattle.pim_bsr.proofs.sound.ranges_of.Given as goal

abbrev pub invariant-loop-learned : goal.invariant-loop-learned
invariant-loop-learned l = l.ranges.items ++ map range_of (drop l.learned-index l.rps) ≡ map range_of l.rps
