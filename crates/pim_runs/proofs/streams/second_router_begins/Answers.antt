use Rattle.pim_runs.{proofs.StreamChain.second_router_begins}
use Rattle.pim_runs.proofs.streams.second_router_begins.Goals as goal

pub returns : goal.returns
returns c = second_router_begins
