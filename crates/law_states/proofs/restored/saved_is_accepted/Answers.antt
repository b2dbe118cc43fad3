use Rattle.law_states.{proofs.Accepted.saved_is_accepted}
use Rattle.law_states.proofs.restored.saved_is_accepted.Goals as goal

pub returns : goal.returns
returns c = saved_is_accepted
