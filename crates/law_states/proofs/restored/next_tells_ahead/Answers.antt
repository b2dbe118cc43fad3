use Rattle.law_states.{proofs.Ahead.next_tells_ahead}
use Rattle.law_states.proofs.restored.next_tells_ahead.Goals as goal

pub returns : goal.returns
returns c = next_tells_ahead
