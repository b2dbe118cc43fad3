use Rattle.std.{proofs.Common.{◌≡◌, ◌++◌, drop, map}}
use Rattle.pim_bsr.{specs.Table.part_range}
use Rattle.pim_bsr.proofs.sound.part_ranges.Given as goal

abbrev pub invariant-loop-part : goal.invariant-loop-part
invariant-loop-part l = l.ranges.items ++ map part_range (drop l.part-index l.parts) ≡ map part_range l.parts
