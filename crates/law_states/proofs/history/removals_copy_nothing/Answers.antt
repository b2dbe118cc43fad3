use Rattle.law_states.{proofs.Histories.removals_copy_nothing}
use Rattle.law_states.proofs.history.removals_copy_nothing.Goals as goal

pub returns : goal.returns
returns c = removals_copy_nothing
