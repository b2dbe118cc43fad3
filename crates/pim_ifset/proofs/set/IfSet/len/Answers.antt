use Rattle.pim_ifset.{proofs.Packing.how_many}
use Rattle.pim_ifset.proofs.set.IfSet.len.Goals as goal

pub returns : goal.returns
returns c = rw (← c.self.view_is) (how_many c.self.inside.mask c.self.invariant)
