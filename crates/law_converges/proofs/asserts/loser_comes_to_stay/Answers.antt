use Rattle.law_converges.{proofs.LinkLosers.loser_comes_to_stay}
use Rattle.law_converges.proofs.asserts.loser_comes_to_stay.Goals as goal

pub returns : goal.returns
returns c = loser_comes_to_stay
