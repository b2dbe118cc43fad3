use Rattle.pim_runs.{proofs.Placed.cause_has_old_number}
use Rattle.pim_runs.proofs.histories.cause_has_old_number.Goals as goal

pub returns : goal.returns
returns c = cause_has_old_number
