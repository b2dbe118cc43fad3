use Rattle.law_streams.{proofs.StreamRoots.each_of_stream_is_served}
use Rattle.law_streams.proofs.stream.each_of_stream_is_served.Goals as goal

pub returns : goal.returns
returns c = each_of_stream_is_served
