use Rattle.law_streams.{proofs.Begun.begun_stream_is_served}
use Rattle.law_streams.proofs.stream.begun_stream_is_served.Goals as goal

pub returns : goal.returns
returns c = begun_stream_is_served
