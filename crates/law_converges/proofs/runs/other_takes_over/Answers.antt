use Rattle.law_converges.{proofs.NextHopRun.other_takes_over}
use Rattle.law_converges.proofs.runs.other_takes_over.Goals as goal

pub returns : goal.returns
returns c = other_takes_over
