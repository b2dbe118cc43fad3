use Rattle.law_states.{proofs.Removed.kept_stay_up}
use Rattle.law_states.proofs.reloaded.kept_stay_up.Goals as goal

pub returns : goal.returns
returns c = kept_stay_up
