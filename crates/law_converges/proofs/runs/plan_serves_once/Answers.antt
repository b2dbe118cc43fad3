use Rattle.law_converges.{proofs.CarriedWaysRun.plan_serves_once}
use Rattle.law_converges.proofs.runs.plan_serves_once.Goals as goal

pub returns : goal.returns
returns c = plan_serves_once
