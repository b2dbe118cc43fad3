use Rattle.law_streams.{proofs.Taken.source_join_is_taken}
use Rattle.law_streams.proofs.served.source_join_is_taken.Goals as goal

pub returns : goal.returns
returns c = source_join_is_taken
