use Rattle.law_converges.{proofs.SourceActiveRun.active_comes}
use Rattle.law_converges.proofs.runs.active_comes.Goals as goal

pub returns : goal.returns
returns c = active_comes
