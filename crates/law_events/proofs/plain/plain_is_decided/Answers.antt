use Rattle.law_events.{proofs.PlainEvents.plain_is_decided}
use Rattle.law_events.proofs.plain.plain_is_decided.Goals as goal

pub returns : goal.returns
returns c = plain_is_decided
