use Rattle.std.{proofs.Common.{◌≡◌, fold, map, take}}
use Rattle.pim_bootstrap.{specs.FragmentTexts.{begun, range_rps, with_texts}}
use Rattle.pim_bootstrap.proofs.fragments.write_bootstrap.Given as goal

-- the ranges so far are written
abbrev pub invariant-loop-range : goal.invariant-loop-range
invariant-loop-range l = l.filling ≡ fold (with_texts l.head) (begun l.head) (map range_rps (take l.range-index l.ranges))
