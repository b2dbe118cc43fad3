use Rattle.law_states.{proofs.Ground.reload_is_under}
use Rattle.law_states.proofs.reloaded.reload_is_under.Goals as goal

pub returns : goal.returns
returns c = reload_is_under
