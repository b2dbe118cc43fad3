use Rattle.law_converges.{proofs.CarriedWaysRun.plan_brings_nothing_else}
use Rattle.law_converges.proofs.runs.plan_brings_nothing_else.Goals as goal

pub returns : goal.returns
returns c = plan_brings_nothing_else
