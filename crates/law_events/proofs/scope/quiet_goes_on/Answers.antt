use Rattle.law_events.{proofs.QuietStates.quiet_goes_on}
use Rattle.law_events.proofs.scope.quiet_goes_on.Goals as goal

pub returns : goal.returns
returns c = quiet_goes_on
