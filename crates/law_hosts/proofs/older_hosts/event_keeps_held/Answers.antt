use Rattle.law_hosts.{proofs.Held.event_keeps_held}
use Rattle.law_hosts.proofs.older_hosts.event_keeps_held.Goals as goal

pub returns : goal.returns
returns c = event_keeps_held
