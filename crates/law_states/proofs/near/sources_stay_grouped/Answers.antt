use Rattle.law_states.{proofs.Grouped.sources_stay_grouped}
use Rattle.law_states.proofs.near.sources_stay_grouped.Goals as goal

pub returns : goal.returns
returns c = sources_stay_grouped
