use Rattle.law_events.{proofs.Rest.firing_is_quiet}
use Rattle.law_events.proofs.scope.firing_is_quiet.Goals as goal

pub returns : goal.returns
returns c = firing_is_quiet
