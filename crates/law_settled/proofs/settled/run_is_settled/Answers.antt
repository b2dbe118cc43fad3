use Rattle.law_settled.{proofs.Steps.run_is_settled}
use Rattle.law_settled.proofs.settled.run_is_settled.Goals as goal

pub returns : goal.returns
returns c = run_is_settled
