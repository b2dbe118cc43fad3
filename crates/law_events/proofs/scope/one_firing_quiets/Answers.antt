use Rattle.law_events.{proofs.Rest.one_firing_quiets}
use Rattle.law_events.proofs.scope.one_firing_quiets.Goals as goal

pub returns : goal.returns
returns c = one_firing_quiets
