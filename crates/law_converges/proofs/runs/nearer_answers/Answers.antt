use Rattle.law_converges.{proofs.LinkAssertsRun.nearer_answers}
use Rattle.law_converges.proofs.runs.nearer_answers.Goals as goal

pub returns : goal.returns
returns c = nearer_answers
