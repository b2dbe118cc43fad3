use Rattle.law_converges.{proofs.LeftLinksRun.host_stays}
use Rattle.law_converges.proofs.runs.host_stays.Goals as goal

pub returns : goal.returns
returns c = host_stays
