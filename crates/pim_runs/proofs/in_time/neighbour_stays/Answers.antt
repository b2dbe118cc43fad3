use Rattle.pim_runs.{proofs.HellosInTime.neighbour_stays}
use Rattle.pim_runs.proofs.in_time.neighbour_stays.Goals as goal

pub returns : goal.returns
returns c = neighbour_stays
