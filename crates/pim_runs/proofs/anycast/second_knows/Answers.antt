use Rattle.pim_runs.{proofs.AnycastRun.second_knows}
use Rattle.pim_runs.proofs.anycast.second_knows.Goals as goal

pub returns : goal.returns
returns c = second_knows
