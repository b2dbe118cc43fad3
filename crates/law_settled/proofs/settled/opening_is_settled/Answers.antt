use Rattle.law_settled.{proofs.Steps.opening_is_settled}
use Rattle.law_settled.proofs.settled.opening_is_settled.Goals as goal

pub returns : goal.returns
returns c = opening_is_settled
