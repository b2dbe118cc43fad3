use Rattle.law_streams.{proofs.Leaves.star_join_leaves}
use Rattle.law_streams.proofs.served.star_join_leaves.Goals as goal

pub returns : goal.returns
returns c = star_join_leaves
