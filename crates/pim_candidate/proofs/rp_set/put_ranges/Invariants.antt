use Rattle.std.{proofs.Common.{◌≡◌, ◌<◌, ◌^◌, fold, length}}
use Rattle.pim_candidate.{specs.RpSet.with_range}
use Rattle.pim_candidate.proofs.rp_set.put_ranges.Given as goal

abbrev pub invariant-loop-range : goal.invariant-loop-range
invariant-loop-range l = record {
  value : fold (with_range l.now l.limit l.rp) l.held.items l.range-iterator ≡ fold (with_range l.now l.limit l.rp) l.fn.held.items l.fn.ranges;
  few : length l.fn.held.items < 2 ^ 8 → l.limit < 2 ^ 8 → length l.held.items < 2 ^ 8;
}
