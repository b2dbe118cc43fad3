use Rattle.law_converges.{proofs.WinnerHopRun.host_is_served}
use Rattle.law_converges.proofs.runs.host_is_served.Goals as goal

pub returns : goal.returns
returns c = host_is_served
