use Rattle.law_states.{proofs.Hellos.untold_says_same}
use Rattle.law_states.proofs.reloaded.untold_says_same.Goals as goal

pub returns : goal.returns
returns c = untold_says_same
