use Rattle.law_converges.{proofs.JoinedWays.way_comes_to_be_joined}
use Rattle.law_converges.proofs.joins.way_comes_to_be_joined.Goals as goal

pub returns : goal.returns
returns c = way_comes_to_be_joined
