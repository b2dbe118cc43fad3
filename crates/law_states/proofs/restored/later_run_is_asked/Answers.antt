use Rattle.law_states.{proofs.Restarts.later_run_is_asked}
use Rattle.law_states.proofs.restored.later_run_is_asked.Goals as goal

pub returns : goal.returns
returns c = later_run_is_asked
