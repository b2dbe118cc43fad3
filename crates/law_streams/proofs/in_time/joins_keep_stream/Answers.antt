use Rattle.law_streams.{proofs.InTimeStreams.joins_keep_stream}
use Rattle.law_streams.proofs.in_time.joins_keep_stream.Goals as goal

pub returns : goal.returns
returns c = joins_keep_stream
