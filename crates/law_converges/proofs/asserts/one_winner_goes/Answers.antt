use Rattle.law_converges.{proofs.TwoWinners.one_winner_goes}
use Rattle.law_converges.proofs.asserts.one_winner_goes.Goals as goal

pub returns : goal.returns
returns c = one_winner_goes
