use Rattle.pim_ifset.{proofs.Packing.{and_packed, has_both, tunnel_both}}
use Rattle.pim_ifset.proofs.set.IfSet.intersection.Goals as goal

pub invariant_of-result : goal.invariant_of-result
invariant_of-result c = and_packed _ _ c.self.invariant

pub returns-clause-interfaces : goal.returns-clause-interfaces
returns-clause-interfaces c q = rw (← c.self.view_is, ← c.other.view_is) (has_both _ _ q)

pub returns-clause-tunnel : goal.returns-clause-tunnel
returns-clause-tunnel c = rw (← c.self.view_is, ← c.other.view_is) (tunnel_both c.self.inside.mask c.other.inside.mask)
