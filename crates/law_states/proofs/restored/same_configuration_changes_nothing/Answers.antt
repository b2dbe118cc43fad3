use Rattle.law_states.{proofs.Reloads.same_configuration_changes_nothing}
use Rattle.law_states.proofs.restored.same_configuration_changes_nothing.Goals as goal

pub returns : goal.returns
returns c = same_configuration_changes_nothing
