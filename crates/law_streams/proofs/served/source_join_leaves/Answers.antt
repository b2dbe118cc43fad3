use Rattle.law_streams.{proofs.Sources.source_join_leaves}
use Rattle.law_streams.proofs.served.source_join_leaves.Goals as goal

pub returns : goal.returns
returns c = source_join_leaves
