use Rattle.law_states.{proofs.WonAddresses.won_stay_own}
use Rattle.law_states.proofs.near.won_stay_own.Goals as goal

pub returns : goal.returns
returns c = won_stay_own
