use Rattle.law_events.{proofs.OwnKeys.opening_is_quiet}
use Rattle.law_events.proofs.scope.opening_is_quiet.Goals as goal

pub returns : goal.returns
returns c = opening_is_quiet
