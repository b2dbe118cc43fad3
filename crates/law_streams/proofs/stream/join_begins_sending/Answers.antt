use Rattle.law_streams.{proofs.Begun.join_begins_sending}
use Rattle.law_streams.proofs.stream.join_begins_sending.Goals as goal

pub returns : goal.returns
returns c = join_begins_sending
