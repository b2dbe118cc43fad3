use Rattle.law_settled.{proofs.FiringLaws.instant_is_complete}
use Rattle.law_settled.proofs.laws.instant_is_complete.Goals as goal

pub returns : goal.returns
returns c = instant_is_complete
