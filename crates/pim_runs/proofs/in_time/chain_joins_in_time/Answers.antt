use Rattle.pim_runs.{proofs.WayInTime.chain_joins_in_time}
use Rattle.pim_runs.proofs.in_time.chain_joins_in_time.Goals as goal

pub returns : goal.returns
returns c = chain_joins_in_time
