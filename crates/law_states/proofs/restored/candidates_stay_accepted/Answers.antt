use Rattle.law_states.{proofs.Accepted.candidates_stay_accepted}
use Rattle.law_states.proofs.restored.candidates_stay_accepted.Goals as goal

pub returns : goal.returns
returns c = candidates_stay_accepted
