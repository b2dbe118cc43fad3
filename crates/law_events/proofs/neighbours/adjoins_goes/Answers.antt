use Rattle.law_events.{proofs.Goes.adjoins_goes}
use Rattle.law_events.proofs.neighbours.adjoins_goes.Goals as goal

pub returns : goal.returns
returns c = adjoins_goes
