use Rattle.std.{proofs.Common.{◌≡◌, drop}, specs.List.list_all}
use Rattle.pim_model.{specs.Limits.is_rp_range}
use Rattle.pim_mrib.proofs.limits.each_is_rp_range.Given as goal

abbrev pub invariant-loop-range : goal.invariant-loop-range
invariant-loop-range l = list_all is_rp_range (drop l.range-index l.ranges) ≡ list_all is_rp_range l.ranges
