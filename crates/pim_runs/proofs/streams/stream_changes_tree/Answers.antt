use Rattle.pim_runs.{proofs.Switch.stream_changes_tree}
use Rattle.pim_runs.proofs.streams.stream_changes_tree.Goals as goal

pub returns : goal.returns
returns c = stream_changes_tree
