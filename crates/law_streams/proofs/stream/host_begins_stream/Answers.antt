use Rattle.law_streams.{proofs.Begun.host_begins_stream}
use Rattle.law_streams.proofs.stream.host_begins_stream.Goals as goal

pub returns : goal.returns
returns c = host_begins_stream
