use Rattle.law_events.{proofs.Rest.instant_is_quiet}
use Rattle.law_events.proofs.scope.instant_is_quiet.Goals as goal

pub returns : goal.returns
returns c = instant_is_quiet
