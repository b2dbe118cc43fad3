use Rattle.law_events.{proofs.OwnKeys.sources_once}
use Rattle.law_events.proofs.scope.sources_stand_once.Goals as goal

pub returns : goal.returns
returns c = sources_once
