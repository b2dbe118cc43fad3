use Rattle.pim_runs.{proofs.WayInTime.way_stays_held}
use Rattle.pim_runs.proofs.in_time.way_stays_held.Goals as goal

pub returns : goal.returns
returns c = way_stays_held
