use Rattle.law_events.{proofs.NeighbourSettles.adjoins_settles}
use Rattle.law_events.proofs.neighbours.adjoins_settles.Goals as goal

pub returns : goal.returns
returns c = adjoins_settles
