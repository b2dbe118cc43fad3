use Rattle.law_states.{proofs.Orders.places_are_there}
use Rattle.law_states.proofs.placed.places_are_there.Goals as goal

pub returns : goal.returns
returns c = places_are_there
