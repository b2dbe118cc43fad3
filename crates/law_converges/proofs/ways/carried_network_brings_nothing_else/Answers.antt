use Rattle.law_converges.{proofs.CarriedWays.carried_network_brings_nothing_else}
use Rattle.law_converges.proofs.ways.carried_network_brings_nothing_else.Goals as goal

pub returns : goal.returns
returns c = carried_network_brings_nothing_else
