use Rattle.std.{proofs.Common.arith}
use Rattle.law_settled.{proofs.Accepted.few_interfaces}
use Rattle.pim_net.{proofs.Stations.of_ok}
use Rattle.pim_net.proofs.station.Station.open.Goals as goal

pub invariant_of-result : goal.invariant_of-result
invariant_of-result c =
    let ok = of_ok _ _ c.in-Ok.router c.in-Ok.is c.in_ok-router.ensures.accepted in
    omega (arith, c.requires.links, few_interfaces c.args.node.config ok.0)
