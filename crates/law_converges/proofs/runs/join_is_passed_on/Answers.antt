use Rattle.law_converges.{proofs.JoinsAskedRun.join_is_passed_on}
use Rattle.law_converges.proofs.runs.join_is_passed_on.Goals as goal

pub returns : goal.returns
returns c = join_is_passed_on
