use Rattle.law_states.{proofs.Rest.reload_leaves_rest}
use Rattle.law_states.proofs.reloaded.reload_leaves_rest.Goals as goal

pub returns : goal.returns
returns c = reload_leaves_rest
