use Rattle.law_events.{proofs.Settled.firing_keeps}
use Rattle.law_events.proofs.named.firing_keeps.Goals as goal

pub returns : goal.returns
returns c = firing_keeps
