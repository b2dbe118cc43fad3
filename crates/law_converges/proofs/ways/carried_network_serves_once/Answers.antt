use Rattle.law_converges.{proofs.CarriedWays.carried_network_serves_once}
use Rattle.law_converges.proofs.ways.carried_network_serves_once.Goals as goal

pub returns : goal.returns
returns c = carried_network_serves_once
