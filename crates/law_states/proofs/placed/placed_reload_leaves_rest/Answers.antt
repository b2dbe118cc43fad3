use Rattle.law_states.{proofs.PlacedRest.placed_reload_leaves_rest}
use Rattle.law_states.proofs.placed.placed_reload_leaves_rest.Goals as goal

pub returns : goal.returns
returns c = placed_reload_leaves_rest
