use Rattle.pim_runs.{proofs.Placed.placed_copy_is_asked_for}
use Rattle.pim_runs.proofs.histories.placed_copy_is_asked_for.Goals as goal

pub returns : goal.returns
returns c = placed_copy_is_asked_for
