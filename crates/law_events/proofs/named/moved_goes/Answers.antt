use Rattle.law_events.{proofs.Moved.moved_goes}
use Rattle.law_events.proofs.named.moved_goes.Goals as goal

pub returns : goal.returns
returns c = moved_goes
