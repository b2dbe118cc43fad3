use Rattle.pim_ifset.{proofs.Packing.{has_with, tunnel_with, with_packed}}
use Rattle.pim_ifset.proofs.set.IfSet.insert.Goals as goal

pub invariant_of-self : goal.invariant_of-self
invariant_of-self c = with_packed _ c.args.iface.number c.self.invariant c.requires

pub returns-clause-interfaces : goal.returns-clause-interfaces
returns-clause-interfaces c q = rw (← c.self.view_is) (has_with _ c.args.iface.number q c.requires)

pub returns-clause-tunnel : goal.returns-clause-tunnel
returns-clause-tunnel c = rw (← c.self.view_is) (tunnel_with _ c.args.iface.number c.requires)
