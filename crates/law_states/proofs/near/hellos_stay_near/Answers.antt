use Rattle.law_states.{proofs.StillEnds.hellos_stay_near}
use Rattle.law_states.proofs.near.hellos_stay_near.Goals as goal

pub returns : goal.returns
returns c = hellos_stay_near
