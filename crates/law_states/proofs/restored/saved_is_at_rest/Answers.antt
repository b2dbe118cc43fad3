use Rattle.law_states.{proofs.RestTests.saved_is_at_rest}
use Rattle.law_states.proofs.restored.saved_is_at_rest.Goals as goal

pub returns : goal.returns
returns c = saved_is_at_rest
