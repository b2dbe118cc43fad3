use Rattle.std.{proofs.Common.{◌≡◌, take}}
use Rattle.pim_reloader.proofs.same.are_same_interfaces.Given as goal

abbrev pub invariant-loop-index : goal.invariant-loop-index
invariant-loop-index l = take l.index l.first ≡ take l.index l.second
