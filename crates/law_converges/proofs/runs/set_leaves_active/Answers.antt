use Rattle.law_converges.{proofs.SourceActiveRun.set_leaves_active}
use Rattle.law_converges.proofs.runs.set_leaves_active.Goals as goal

pub returns : goal.returns
returns c = set_leaves_active
