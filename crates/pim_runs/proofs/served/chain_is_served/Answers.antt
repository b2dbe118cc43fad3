use Rattle.pim_runs.{proofs.ServedChain.chain_is_served}
use Rattle.pim_runs.proofs.served.chain_is_served.Goals as goal

pub returns : goal.returns
returns c = chain_is_served
