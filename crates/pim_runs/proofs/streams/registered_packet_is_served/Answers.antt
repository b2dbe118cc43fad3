use Rattle.pim_runs.{proofs.StreamChain.registered_packet_is_served}
use Rattle.pim_runs.proofs.streams.registered_packet_is_served.Goals as goal

pub returns : goal.returns
returns c = registered_packet_is_served
