use Rattle.law_states.{proofs.Restarts.later_state_is_reached}
use Rattle.law_states.proofs.restored.later_state_is_reached.Goals as goal

pub returns : goal.returns
returns c = later_state_is_reached
