use Rattle.pim_runs.{proofs.OnLink.shared_stays_held}
use Rattle.pim_runs.proofs.in_time.shared_stays_held.Goals as goal

pub returns : goal.returns
returns c = shared_stays_held
