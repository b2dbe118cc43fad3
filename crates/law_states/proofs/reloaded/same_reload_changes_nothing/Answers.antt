use Rattle.law_states.{proofs.ReloadedSettings.same_reload_changes_nothing}
use Rattle.law_states.proofs.reloaded.same_reload_changes_nothing.Goals as goal

pub returns : goal.returns
returns c = same_reload_changes_nothing
