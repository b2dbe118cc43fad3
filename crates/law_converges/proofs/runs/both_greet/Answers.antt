use Rattle.law_converges.{proofs.LinkDrRun.both_greet}
use Rattle.law_converges.proofs.runs.both_greet.Goals as goal

pub returns : goal.returns
returns c = both_greet
