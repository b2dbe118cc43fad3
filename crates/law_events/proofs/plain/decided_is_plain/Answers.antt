use Rattle.law_events.{proofs.PlainEvents.decided_is_plain}
use Rattle.law_events.proofs.plain.decided_is_plain.Goals as goal

pub returns : goal.returns
returns c = decided_is_plain
