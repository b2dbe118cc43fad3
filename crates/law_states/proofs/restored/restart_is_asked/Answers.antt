use Rattle.law_states.{proofs.Restarts.restart_is_asked}
use Rattle.law_states.proofs.restored.restart_is_asked.Goals as goal

pub returns : goal.returns
returns c = restart_is_asked
