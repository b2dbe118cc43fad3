use Rattle.law_streams.{proofs.Timed.firing_keeps_timed}
use Rattle.law_streams.proofs.served.firing_keeps_timed.Goals as goal

pub returns : goal.returns
returns c = firing_keeps_timed
