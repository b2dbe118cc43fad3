use Rattle.law_converges.{proofs.NetworkConvergesRun.plan_is_converging}
use Rattle.law_converges.proofs.runs.plan_is_converging.Goals as goal

pub returns : goal.returns
returns c = plan_is_converging
