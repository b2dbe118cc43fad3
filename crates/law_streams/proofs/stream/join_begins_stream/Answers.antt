use Rattle.law_streams.{proofs.Begins.join_begins_stream}
use Rattle.law_streams.proofs.stream.join_begins_stream.Goals as goal

pub returns : goal.returns
returns c = join_begins_stream
