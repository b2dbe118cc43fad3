use Rattle.law_events.{proofs.Settled.event_keeps}
use Rattle.law_events.proofs.named.event_keeps.Goals as goal

pub returns : goal.returns
returns c = event_keeps
