use Rattle.law_converges.{proofs.LinkLosersRun.farther_stays_loser}
use Rattle.law_converges.proofs.runs.farther_stays_loser.Goals as goal

pub returns : goal.returns
returns c = farther_stays_loser
