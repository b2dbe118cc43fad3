use Rattle.pim_ifset.{proofs.Packing.{and_packed, has_minus, tunnel_minus, within_128}}
use Rattle.pim_ifset.proofs.set.IfSet.minus.Goals as goal

pub invariant_of-result : goal.invariant_of-result
invariant_of-result c = and_packed _ _ c.self.invariant

pub returns-clause-interfaces : goal.returns-clause-interfaces
returns-clause-interfaces c q = rw (← c.self.view_is, ← c.other.view_is) (has_minus _ _ q (within_128 _ c.other.invariant))

pub returns-clause-tunnel : goal.returns-clause-tunnel
returns-clause-tunnel c = rw (← c.self.view_is, ← c.other.view_is) (tunnel_minus c.self.inside.mask c.other.inside.mask (within_128 _ c.other.invariant))
