use Rattle.law_states.{proofs.SoundRows.reload_stays_fit}
use Rattle.law_states.proofs.reported.reload_stays_fit.Goals as goal

pub returns : goal.returns
returns c = reload_stays_fit
