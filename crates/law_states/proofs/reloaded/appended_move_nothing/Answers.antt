use Rattle.law_states.{proofs.Unseen.appended_move_nothing}
use Rattle.law_states.proofs.reloaded.appended_move_nothing.Goals as goal

pub returns : goal.returns
returns c = appended_move_nothing
