use Rattle.law_states.{proofs.ReloadedSettings.settings_move_nothing}
use Rattle.law_states.proofs.reloaded.settings_move_nothing.Goals as goal

pub returns : goal.returns
returns c = settings_move_nothing
