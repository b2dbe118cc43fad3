use Rattle.law_states.{proofs.Asked.call_is_asked}
use Rattle.law_states.proofs.history.call_is_asked.Goals as goal

pub returns : goal.returns
returns c = call_is_asked
