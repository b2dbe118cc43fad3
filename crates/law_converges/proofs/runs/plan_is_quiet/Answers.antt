use Rattle.law_converges.{proofs.CarriedNetworkRun.plan_is_quiet}
use Rattle.law_converges.proofs.runs.plan_is_quiet.Goals as goal

pub returns : goal.returns
returns c = plan_is_quiet
