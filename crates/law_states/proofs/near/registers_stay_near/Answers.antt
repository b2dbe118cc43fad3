use Rattle.law_states.{proofs.StillEnds.registers_stay_near}
use Rattle.law_states.proofs.near.registers_stay_near.Goals as goal

pub returns : goal.returns
returns c = registers_stay_near
