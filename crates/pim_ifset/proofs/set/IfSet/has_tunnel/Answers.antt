use Rattle.pim_ifset.{proofs.Packing.tunnel_masked}
use Rattle.pim_ifset.proofs.set.IfSet.has_tunnel.Goals as goal

pub returns : goal.returns
returns c = rw (← c.self.view_is) (tunnel_masked c.self.inside.mask)
