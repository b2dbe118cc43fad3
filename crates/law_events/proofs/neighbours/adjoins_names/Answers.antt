use Rattle.law_events.{proofs.NeighbourStays.adjoins_names}
use Rattle.law_events.proofs.neighbours.adjoins_names.Goals as goal

pub returns : goal.returns
returns c = adjoins_names
