use Rattle.law_streams.{proofs.ServedRepeats.source_join_is_repeated}
use Rattle.law_streams.proofs.served.source_join_is_repeated.Goals as goal

pub returns : goal.returns
returns c = source_join_is_repeated
