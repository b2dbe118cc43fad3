use Rattle.law_streams.{proofs.Streams.stream_is_served}
use Rattle.law_streams.proofs.stream.stream_is_served.Goals as goal

pub returns : goal.returns
returns c = stream_is_served
