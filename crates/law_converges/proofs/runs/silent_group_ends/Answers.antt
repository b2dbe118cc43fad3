use Rattle.law_converges.{proofs.LeftGroupRun.silent_group_ends}
use Rattle.law_converges.proofs.runs.silent_group_ends.Goals as goal

pub returns : goal.returns
returns c = silent_group_ends
