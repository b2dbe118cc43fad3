use Rattle.pim_ifset.{proofs.Packing.zero_packed}
use Rattle.pim_ifset.proofs.set.IfSetDefault.default.Goals as goal

pub invariant_of-result : goal.invariant_of-result
invariant_of-result c = rw c.default.ensures zero_packed
