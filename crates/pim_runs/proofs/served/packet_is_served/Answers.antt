use Rattle.pim_runs.{proofs.ServedChain.packet_is_served}
use Rattle.pim_runs.proofs.served.packet_is_served.Goals as goal

pub returns : goal.returns
returns c = packet_is_served
