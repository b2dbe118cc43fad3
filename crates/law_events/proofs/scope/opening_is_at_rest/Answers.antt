use Rattle.law_events.{proofs.Rest.opening_is_at_rest}
use Rattle.law_events.proofs.scope.opening_is_at_rest.Goals as goal

pub returns : goal.returns
returns c = opening_is_at_rest
