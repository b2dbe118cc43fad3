use Rattle.law_events.{proofs.Rest.step_is_quiet}
use Rattle.law_events.proofs.scope.step_is_quiet.Goals as goal

pub returns : goal.returns
returns c = step_is_quiet
