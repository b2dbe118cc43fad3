use Rattle.law_converges.{proofs.NetworkConvergesRun.plan_has_converged}
use Rattle.law_converges.proofs.runs.plan_has_converged.Goals as goal

pub returns : goal.returns
returns c = plan_has_converged
