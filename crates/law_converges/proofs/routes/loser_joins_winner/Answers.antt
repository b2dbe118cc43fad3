use Rattle.law_converges.{proofs.LoserJoins.loser_joins_winner}
use Rattle.law_converges.proofs.routes.loser_joins_winner.Goals as goal

pub returns : goal.returns
returns c = loser_joins_winner
