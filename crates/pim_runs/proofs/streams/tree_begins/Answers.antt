use Rattle.pim_runs.{proofs.SourceChain.tree_begins}
use Rattle.pim_runs.proofs.streams.tree_begins.Goals as goal

pub returns : goal.returns
returns c = tree_begins
