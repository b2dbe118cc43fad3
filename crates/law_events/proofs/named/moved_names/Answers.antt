use Rattle.law_events.{proofs.Moved.moved_names}
use Rattle.law_events.proofs.named.moved_names.Goals as goal

pub returns : goal.returns
returns c = moved_names
