use Rattle.law_converges.{proofs.OneSenderRun.farther_sends_none}
use Rattle.law_converges.proofs.runs.farther_sends_none.Goals as goal

pub returns : goal.returns
returns c = farther_sends_none
