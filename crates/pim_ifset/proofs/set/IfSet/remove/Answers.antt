use Rattle.std.{proofs.Common.arith}
use Rattle.pim_ifset.{proofs.{Masks.has_but_above, Packing.{and_packed, has_without, tunnel_without}}}
use Rattle.pim_ifset.proofs.set.IfSet.remove.Goals as goal

pub invariant_of-self : goal.invariant_of-self
invariant_of-self c = and_packed _ _ c.self.invariant

pub returns-then-iface-lt-LIMIT-clause-interfaces : goal.returns-then-iface-lt-LIMIT-clause-interfaces
returns-then-iface-lt-LIMIT-clause-interfaces c q = rw (← c.self.view_is) (has_without _ c.args.iface.number q c.if-iface-lt-LIMIT.true)

pub returns-then-iface-lt-LIMIT-clause-tunnel : goal.returns-then-iface-lt-LIMIT-clause-tunnel
returns-then-iface-lt-LIMIT-clause-tunnel c = rw (← c.self.view_is) (tunnel_without _ c.args.iface.number c.if-iface-lt-LIMIT.true)

pub returns-else-iface-lt-LIMIT-clause-interfaces : goal.returns-else-iface-lt-LIMIT-clause-interfaces
returns-else-iface-lt-LIMIT-clause-interfaces c q = rw (← c.self.view_is) (has_but_above _ c.args.iface.number _ q c.self.invariant.1 (omega arith))
