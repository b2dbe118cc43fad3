use Rattle.law_converges.{proofs.SourceActiveRun.active_makes_known}
use Rattle.law_converges.proofs.runs.active_makes_known.Goals as goal

pub returns : goal.returns
returns c = active_makes_known
