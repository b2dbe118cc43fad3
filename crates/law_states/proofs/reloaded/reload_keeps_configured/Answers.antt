use Rattle.law_states.{proofs.Removed.reload_keeps_configured}
use Rattle.law_states.proofs.reloaded.reload_keeps_configured.Goals as goal

pub returns : goal.returns
returns c = reload_keeps_configured
