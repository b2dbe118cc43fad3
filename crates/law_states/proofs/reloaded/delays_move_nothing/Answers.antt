use Rattle.law_states.{proofs.Unseen.delays_move_nothing}
use Rattle.law_states.proofs.reloaded.delays_move_nothing.Goals as goal

pub returns : goal.returns
returns c = delays_move_nothing
