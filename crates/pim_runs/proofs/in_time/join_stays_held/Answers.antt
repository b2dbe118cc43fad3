use Rattle.pim_runs.{proofs.InTime.join_stays_held}
use Rattle.pim_runs.proofs.in_time.join_stays_held.Goals as goal

pub returns : goal.returns
returns c = join_stays_held
