use Rattle.pim_runs.{proofs.LastHop.last_hop_changes}
use Rattle.pim_runs.proofs.streams.last_hop_changes.Goals as goal

pub returns : goal.returns
returns c = last_hop_changes
