use Rattle.law_settled.{proofs.Steps.step_stays_ahead}
use Rattle.law_settled.proofs.settled.step_stays_ahead.Goals as goal

pub returns : goal.returns
returns c = step_stays_ahead
