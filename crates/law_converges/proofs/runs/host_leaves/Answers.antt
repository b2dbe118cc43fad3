use Rattle.law_converges.{proofs.LeftLinksRun.host_leaves}
use Rattle.law_converges.proofs.runs.host_leaves.Goals as goal

pub returns : goal.returns
returns c = host_leaves
