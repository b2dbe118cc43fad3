use Rattle.law_states.{proofs.AssertEnds.asserts_stay_near}
use Rattle.law_states.proofs.near.asserts_stay_near.Goals as goal

pub returns : goal.returns
returns c = asserts_stay_near
