use Rattle.law_converges.{proofs.JoinsAskedRun.report_is_joined}
use Rattle.law_converges.proofs.runs.report_is_joined.Goals as goal

pub returns : goal.returns
returns c = report_is_joined
