use Rattle.std.{proofs.Common.take}
use Rattle.pim_mrib.{specs.Hops.AreNextHops}
use Rattle.pim_mrib.proofs.mrib.next_hops.Given as goal

abbrev pub invariant-loop-route : goal.invariant-loop-route
invariant-loop-route l = AreNextHops (take l.route-index l.routes) l.hops.keys
