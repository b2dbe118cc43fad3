use Rattle.law_events.{proofs.Rest.step_is_at_rest}
use Rattle.law_events.proofs.scope.step_is_at_rest.Goals as goal

pub returns : goal.returns
returns c = step_is_at_rest
