use Rattle.pim_runs.{proofs.Placed.places_lead}
use Rattle.pim_runs.proofs.histories.places_lead.Goals as goal

pub returns : goal.returns
returns c = places_lead
