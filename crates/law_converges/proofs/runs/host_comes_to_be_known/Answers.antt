use Rattle.law_converges.{proofs.LinkMembersRun.host_comes_to_be_known}
use Rattle.law_converges.proofs.runs.host_comes_to_be_known.Goals as goal

pub returns : goal.returns
returns c = host_comes_to_be_known
