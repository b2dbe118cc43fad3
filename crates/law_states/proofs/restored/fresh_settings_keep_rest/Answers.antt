use Rattle.law_states.{proofs.Settings.fresh_settings_keep_rest}
use Rattle.law_states.proofs.restored.fresh_settings_keep_rest.Goals as goal

pub returns : goal.returns
returns c = fresh_settings_keep_rest
