use Rattle.law_states.{proofs.Accepted.saved_candidates_are_accepted}
use Rattle.law_states.proofs.restored.saved_candidates_are_accepted.Goals as goal

pub returns : goal.returns
returns c = saved_candidates_are_accepted
