use Rattle.law_converges.{proofs.CarriedWaysRun.plan_is_open}
use Rattle.law_converges.proofs.runs.plan_is_open.Goals as goal

pub returns : goal.returns
returns c = plan_is_open
