use Rattle.law_states.{proofs.Moved.placed_reload_is_under}
use Rattle.law_states.proofs.placed.placed_reload_is_under.Goals as goal

pub returns : goal.returns
returns c = placed_reload_is_under
