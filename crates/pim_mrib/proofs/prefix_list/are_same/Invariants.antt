use Rattle.std.{proofs.Common.{◌≡◌, take}}
use Rattle.pim_mrib.proofs.prefix_list.are_same.Given as goal

abbrev pub invariant-loop-index : goal.invariant-loop-index
invariant-loop-index g l = take l.index l.first ≡ take l.index l.second
