use Rattle.pim_ifset.{proofs.Packing.{has_either, or_packed, tunnel_either}}
use Rattle.pim_ifset.proofs.set.IfSet.union.Goals as goal

pub invariant_of-result : goal.invariant_of-result
invariant_of-result c = or_packed _ _ c.self.invariant c.other.invariant

pub returns-clause-interfaces : goal.returns-clause-interfaces
returns-clause-interfaces c q = rw (← c.self.view_is, ← c.other.view_is) (has_either _ _ q)

pub returns-clause-tunnel : goal.returns-clause-tunnel
returns-clause-tunnel c = rw (← c.self.view_is, ← c.other.view_is) (tunnel_either c.self.inside.mask c.other.inside.mask)
