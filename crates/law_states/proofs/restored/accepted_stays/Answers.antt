use Rattle.law_states.{proofs.Accepted.accepted_stays}
use Rattle.law_states.proofs.restored.accepted_stays.Goals as goal

pub returns : goal.returns
returns c = accepted_stays
