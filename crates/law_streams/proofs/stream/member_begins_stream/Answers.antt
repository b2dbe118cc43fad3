use Rattle.law_streams.{proofs.Streams.member_begins_stream}
use Rattle.law_streams.proofs.stream.member_begins_stream.Goals as goal

pub returns : goal.returns
returns c = member_begins_stream
