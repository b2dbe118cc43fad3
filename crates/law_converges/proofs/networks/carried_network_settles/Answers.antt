use Rattle.law_converges.{proofs.CarriedNetwork.carried_network_settles}
use Rattle.law_converges.proofs.networks.carried_network_settles.Goals as goal

pub returns : goal.returns
returns c = carried_network_settles
