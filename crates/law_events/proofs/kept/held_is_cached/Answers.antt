use Rattle.law_events.{proofs.RowsOfSteps.all_keep}
use Rattle.law_events.proofs.kept.held_is_cached.Goals as goal

pub returns : goal.returns
returns c = λ w moment h few held. (all_keep w moment h (few, held)).1
