use Rattle.law_converges.{proofs.TwoWinnersRun.farther_goes}
use Rattle.law_converges.proofs.runs.farther_goes.Goals as goal

pub returns : goal.returns
returns c = farther_goes
