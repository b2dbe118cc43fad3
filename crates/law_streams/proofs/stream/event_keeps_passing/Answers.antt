use Rattle.law_streams.{proofs.Passing.event_keeps_passing}
use Rattle.law_streams.proofs.stream.event_keeps_passing.Goals as goal

pub returns : goal.returns
returns c = event_keeps_passing
