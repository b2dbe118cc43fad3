use Rattle.law_streams.{proofs.StreamRoots.event_keeps_sending}
use Rattle.law_streams.proofs.stream.event_keeps_sending.Goals as goal

pub returns : goal.returns
returns c = event_keeps_sending
