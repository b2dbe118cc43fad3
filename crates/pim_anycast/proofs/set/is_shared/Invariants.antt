use Rattle.std.{proofs.Common.{◌≡◌, drop}}
use Rattle.pim_anycast.{specs.Sets.is_shared}
use Rattle.pim_anycast.proofs.set.is_shared.Given as goal

abbrev pub invariant-loop-set : goal.invariant-loop-set
invariant-loop-set l = is_shared (drop l.set-index l.sets) l.address.bits ≡ is_shared l.sets l.address.bits
