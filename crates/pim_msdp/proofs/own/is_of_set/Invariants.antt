use Rattle.std.proofs.Common.{◌≡◌, drop}
use Rattle.pim_msdp.{specs.Own.is_of_set}
use Rattle.pim_msdp.proofs.own.is_of_set.Given as goal

abbrev pub invariant-loop-set : goal.invariant-loop-set
invariant-loop-set l = is_of_set (drop l.set-index l.sets) l.rp.bits l.address.bits ≡ is_of_set l.sets l.rp.bits l.address.bits
