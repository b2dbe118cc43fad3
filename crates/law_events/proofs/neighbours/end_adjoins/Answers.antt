use Rattle.law_events.{proofs.Hellos.end_adjoins}
use Rattle.law_events.proofs.neighbours.end_adjoins.Goals as goal

pub returns : goal.returns
returns c = end_adjoins
