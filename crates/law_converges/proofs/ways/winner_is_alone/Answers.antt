use Rattle.law_converges.{proofs.AloneByAssert.winner_is_alone}
use Rattle.law_converges.proofs.ways.winner_is_alone.Goals as goal

pub returns : goal.returns
returns c = winner_is_alone
