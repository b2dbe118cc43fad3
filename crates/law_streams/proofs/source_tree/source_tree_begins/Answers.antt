use Rattle.law_streams.{proofs.SourceTreeWays.source_tree_begins}
use Rattle.law_streams.proofs.source_tree.source_tree_begins.Goals as goal

pub returns : goal.returns
returns c = source_tree_begins
