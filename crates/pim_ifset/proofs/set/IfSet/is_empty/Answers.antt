use Rattle.pim_ifset.{proofs.Packing.is_nothing}
use Rattle.pim_ifset.proofs.set.IfSet.is_empty.Goals as goal

pub returns : goal.returns
returns c = rw (← c.self.view_is) (is_nothing c.self.inside.mask c.self.invariant)
