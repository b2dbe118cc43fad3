use Rattle.law_converges.{proofs.LinkLosers.loser_stays_loser}
use Rattle.law_converges.proofs.asserts.loser_stays_loser.Goals as goal

pub returns : goal.returns
returns c = loser_stays_loser
