use Rattle.std.{proofs.Common.{◌≡◌, [], fold, take}}
use Rattle.pim_model.{specs.Full.once_more}
use Rattle.pim_downstream.proofs.full.distinct.Given as goal

abbrev pub invariant-loop-key : goal.invariant-loop-key
invariant-loop-key l = l.found.items ≡ fold once_more [] (take l.key-index l.keys)
