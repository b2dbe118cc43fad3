use Rattle.law_states.{proofs.Reloads.reload_is_at_rest}
use Rattle.law_states.proofs.restored.reload_is_at_rest.Goals as goal

pub returns : goal.returns
returns c = reload_is_at_rest
