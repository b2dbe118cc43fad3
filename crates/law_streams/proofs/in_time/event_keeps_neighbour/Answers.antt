use Rattle.law_streams.{proofs.Neighbours.event_keeps_neighbour}
use Rattle.law_streams.proofs.in_time.event_keeps_neighbour.Goals as goal

pub returns : goal.returns
returns c = event_keeps_neighbour
