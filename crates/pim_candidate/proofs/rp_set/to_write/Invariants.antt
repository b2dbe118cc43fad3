use Rattle.std.{proofs.Common.{◌≡◌, ◌++◌, drop, map}, specs.List.All}
use Rattle.pim_bootstrap.{specs.FragmentTexts.{IsWritable, range_rps}}
use Rattle.pim_candidate.{specs.RpSet.said_value}
use Rattle.pim_candidate.proofs.rp_set.to_write.Given as goal

abbrev pub invariant-loop-range : goal.invariant-loop-range
invariant-loop-range l = record {
  value : map range_rps l.ranges.items ++ map said_value (drop l.range-index l.said) ≡ map said_value l.said;
  writable : All IsWritable l.ranges.items;
}
