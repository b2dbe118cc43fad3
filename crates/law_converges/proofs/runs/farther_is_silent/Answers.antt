use Rattle.law_converges.{proofs.OneSenderIsLeftRun.farther_is_silent}
use Rattle.law_converges.proofs.runs.farther_is_silent.Goals as goal

pub returns : goal.returns
returns c = farther_is_silent
