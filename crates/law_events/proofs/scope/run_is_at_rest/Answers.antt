use Rattle.law_events.{proofs.Rest.run_is_at_rest}
use Rattle.law_events.proofs.scope.run_is_at_rest.Goals as goal

pub returns : goal.returns
returns c = run_is_at_rest
