use Rattle.law_events.{proofs.QuietStates.settling_clears}
use Rattle.law_events.proofs.scope.settling_clears.Goals as goal

pub returns : goal.returns
returns c = settling_clears
