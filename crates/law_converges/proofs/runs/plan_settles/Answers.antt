use Rattle.law_converges.{proofs.CarriedNetworkRun.plan_settles}
use Rattle.law_converges.proofs.runs.plan_settles.Goals as goal

pub returns : goal.returns
returns c = plan_settles
