use Rattle.law_states.{proofs.Mapped.places_go_by_the_map}
use Rattle.law_states.proofs.placed.places_go_by_the_map.Goals as goal

pub returns : goal.returns
returns c = places_go_by_the_map
