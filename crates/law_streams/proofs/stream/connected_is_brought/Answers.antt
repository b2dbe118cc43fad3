use Rattle.law_streams.{proofs.StreamSources.connected_is_brought}
use Rattle.law_streams.proofs.stream.connected_is_brought.Goals as goal

pub returns : goal.returns
returns c = connected_is_brought
