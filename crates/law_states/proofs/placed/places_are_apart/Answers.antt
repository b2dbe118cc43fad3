use Rattle.law_states.{proofs.Apart.places_are_apart}
use Rattle.law_states.proofs.placed.places_are_apart.Goals as goal

pub returns : goal.returns
returns c = places_are_apart
