use Rattle.law_states.{proofs.Removed.none_of_removed}
use Rattle.law_states.proofs.reloaded.none_of_removed.Goals as goal

pub returns : goal.returns
returns c = none_of_removed
