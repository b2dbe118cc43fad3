use Rattle.law_states.{proofs.Histories.calls_lead_on}
use Rattle.law_states.proofs.history.calls_lead_on.Goals as goal

pub returns : goal.returns
returns c = calls_lead_on
