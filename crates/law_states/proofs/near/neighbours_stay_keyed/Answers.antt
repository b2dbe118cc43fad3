use Rattle.law_states.{proofs.StillEnds.neighbours_stay_keyed}
use Rattle.law_states.proofs.near.neighbours_stay_keyed.Goals as goal

pub returns : goal.returns
returns c = neighbours_stay_keyed
