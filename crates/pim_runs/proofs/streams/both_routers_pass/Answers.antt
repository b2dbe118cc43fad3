use Rattle.pim_runs.{proofs.StreamChain.both_routers_pass}
use Rattle.pim_runs.proofs.streams.both_routers_pass.Goals as goal

pub returns : goal.returns
returns c = both_routers_pass
