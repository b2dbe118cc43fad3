use Rattle.law_states.{proofs.Restarts.restart_changes_nothing}
use Rattle.law_states.proofs.restored.restart_changes_nothing.Goals as goal

pub returns : goal.returns
returns c = restart_changes_nothing
