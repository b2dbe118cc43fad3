use Rattle.pim_runs.{proofs.History.copy_is_asked_for}
use Rattle.pim_runs.proofs.histories.copy_is_asked_for.Goals as goal

pub returns : goal.returns
returns c = copy_is_asked_for
