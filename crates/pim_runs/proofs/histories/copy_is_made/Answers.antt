use Rattle.pim_runs.{proofs.History.copy_is_made}
use Rattle.pim_runs.proofs.histories.copy_is_made.Goals as goal

pub returns : goal.returns
returns c = copy_is_made
