use Rattle.law_converges.{proofs.OneSenderIsLeftRun.both_send}
use Rattle.law_converges.proofs.runs.both_send.Goals as goal

pub returns : goal.returns
returns c = both_send
