use Rattle.law_events.{proofs.Moved.moved_settles}
use Rattle.law_events.proofs.named.moved_settles.Goals as goal

pub returns : goal.returns
returns c = moved_settles
