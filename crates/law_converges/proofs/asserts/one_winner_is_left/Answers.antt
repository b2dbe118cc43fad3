use Rattle.law_converges.{proofs.LinkAsserts.one_winner_is_left}
use Rattle.law_converges.proofs.asserts.one_winner_is_left.Goals as goal

pub returns : goal.returns
returns c = one_winner_is_left
