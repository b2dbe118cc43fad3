use Rattle.std.{proofs.Common.{◌≡◌, drop}}
use Rattle.pim_anycast.{specs.Sets.set_sharing}
use Rattle.pim_anycast.proofs.set.set_sharing.Given as goal

abbrev pub invariant-loop-set : goal.invariant-loop-set
invariant-loop-set l = set_sharing (drop l.set-index l.sets) l.shared.bits ≡ set_sharing l.sets l.shared.bits
