use Rattle.law_converges.{proofs.NetworkConverges.network_converges}
use Rattle.law_converges.proofs.networks.network_converges.Goals as goal

pub returns : goal.returns
returns c = network_converges
