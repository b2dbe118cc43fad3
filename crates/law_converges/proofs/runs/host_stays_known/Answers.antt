use Rattle.law_converges.{proofs.LinkMembersRun.host_stays_known}
use Rattle.law_converges.proofs.runs.host_stays_known.Goals as goal

pub returns : goal.returns
returns c = host_stays_known
