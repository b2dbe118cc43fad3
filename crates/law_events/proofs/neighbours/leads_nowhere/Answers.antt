use Rattle.law_events.{proofs.Nowhere.leads_nowhere}
use Rattle.law_events.proofs.neighbours.leads_nowhere.Goals as goal

pub returns : goal.returns
returns c = leads_nowhere
