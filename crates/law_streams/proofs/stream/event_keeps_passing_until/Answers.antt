use Rattle.law_streams.{proofs.InTime.event_keeps_passing_until}
use Rattle.law_streams.proofs.stream.event_keeps_passing_until.Goals as goal

pub returns : goal.returns
returns c = event_keeps_passing_until
