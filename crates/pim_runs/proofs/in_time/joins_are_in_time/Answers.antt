use Rattle.pim_runs.{proofs.InTime.joins_are_in_time}
use Rattle.pim_runs.proofs.in_time.joins_are_in_time.Goals as goal

pub returns : goal.returns
returns c = joins_are_in_time
