use Rattle.law_events.{proofs.NeighbourStays.adjoins_stays}
use Rattle.law_events.proofs.neighbours.adjoins_stays.Goals as goal

pub returns : goal.returns
returns c = adjoins_stays
