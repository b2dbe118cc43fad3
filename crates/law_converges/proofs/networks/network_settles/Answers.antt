use Rattle.law_converges.{proofs.Settles.network_settles}
use Rattle.law_converges.proofs.networks.network_settles.Goals as goal

pub returns : goal.returns
returns c = network_settles
