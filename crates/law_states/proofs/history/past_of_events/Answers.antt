use Rattle.law_states.{proofs.Histories.past_of_events}
use Rattle.law_states.proofs.history.past_of_events.Goals as goal

pub returns : goal.returns
returns c = past_of_events
