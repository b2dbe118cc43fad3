use Rattle.pim_ifset.{proofs.Packing.{below_without_tunnel, has_below, ones_packed}}
use Rattle.pim_ifset.proofs.set.IfSet.below.Goals as goal

pub invariant_of-result : goal.invariant_of-result
invariant_of-result c = ones_packed c.args.number c.requires

pub returns-clause-interfaces : goal.returns-clause-interfaces
returns-clause-interfaces c q = has_below c.args.number q c.requires

pub returns-clause-tunnel : goal.returns-clause-tunnel
returns-clause-tunnel c = below_without_tunnel c.args.number c.requires
