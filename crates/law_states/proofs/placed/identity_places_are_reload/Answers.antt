use Rattle.law_states.{proofs.Identity.identity_places_are_reload}
use Rattle.law_states.proofs.placed.identity_places_are_reload.Goals as goal

pub returns : goal.returns
returns c = identity_places_are_reload
