use Rattle.std.{proofs.Common.{sym, ◌∙◌}}
use Rattle.pim_ifset.{proofs.Packing.{has_bare, has_tunnelled, tunnelled_packed, with_tunnel}}
use Rattle.pim_ifset.proofs.set.IfSet.set_tunnel.Goals as goal

pub invariant_of-self : goal.invariant_of-self
invariant_of-self c = tunnelled_packed c.self.inside.mask c.self.invariant

pub returns-then-tunnel-clause-interfaces : goal.returns-then-tunnel-clause-interfaces
returns-then-tunnel-clause-interfaces c q = rw (← c.self.view_is) (has_tunnelled c.self.inside.mask q)

pub returns-then-tunnel-clause-tunnel : goal.returns-then-tunnel-clause-tunnel
returns-then-tunnel-clause-tunnel c = with_tunnel c.self.inside.mask ∙ sym c.if-tunnel.true

pub returns-else-tunnel-clause-interfaces : goal.returns-else-tunnel-clause-interfaces
returns-else-tunnel-clause-interfaces c q = rw (← c.self.view_is) (has_bare c.self.inside.mask q)
