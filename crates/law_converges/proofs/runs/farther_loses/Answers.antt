use Rattle.law_converges.{proofs.LinkAssertsRun.farther_loses}
use Rattle.law_converges.proofs.runs.farther_loses.Goals as goal

pub returns : goal.returns
returns c = farther_loses
