use Rattle.law_streams.{proofs.ReadBack.join_is_read}
use Rattle.law_streams.proofs.served.join_is_read.Goals as goal

pub returns : goal.returns
returns c = join_is_read
