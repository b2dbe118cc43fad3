use Rattle.pim_ifset.{proofs.{Masks.has_below_limit, Packing.{and_packed, bare_without_tunnel, has_bare}}}
use Rattle.std.{proofs.Common.◌∙◌}
use Rattle.pim_ifset.proofs.set.IfSet.without_tunnel.Goals as goal

pub invariant_of-result : goal.invariant_of-result
invariant_of-result c = and_packed _ _ c.self.invariant

pub returns-clause-interfaces : goal.returns-clause-interfaces
returns-clause-interfaces c q = rw (← c.self.view_is) (has_bare c.self.inside.mask q)

pub returns-clause-tunnel : goal.returns-clause-tunnel
returns-clause-tunnel c = bare_without_tunnel c.self.inside.mask

pub returns-clause-limit : goal.returns-clause-limit
returns-clause-limit c q = rw (← c.self.view_is) (has_bare c.self.inside.mask q ∙ has_below_limit _ _ _ q c.self.invariant.1)
