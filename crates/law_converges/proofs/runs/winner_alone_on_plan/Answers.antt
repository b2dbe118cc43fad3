use Rattle.law_converges.{proofs.AloneByAssertRun.winner_alone_on_plan}
use Rattle.law_converges.proofs.runs.winner_alone_on_plan.Goals as goal

pub returns : goal.returns
returns c = winner_alone_on_plan
