use Rattle.law_streams.{proofs.Sources.source_join_leaves_in_time}
use Rattle.law_streams.proofs.served.source_join_leaves_in_time.Goals as goal

pub returns : goal.returns
returns c = source_join_leaves_in_time
