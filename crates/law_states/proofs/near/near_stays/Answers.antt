use Rattle.law_states.{proofs.NearStates.near_stays}
use Rattle.law_states.proofs.near.near_stays.Goals as goal

pub returns : goal.returns
returns c = near_stays
