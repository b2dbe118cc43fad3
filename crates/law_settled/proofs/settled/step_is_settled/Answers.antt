use Rattle.law_settled.{proofs.Steps.step_is_settled}
use Rattle.law_settled.proofs.settled.step_is_settled.Goals as goal

pub returns : goal.returns
returns c = step_is_settled
