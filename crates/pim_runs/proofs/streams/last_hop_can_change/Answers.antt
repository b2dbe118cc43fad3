use Rattle.pim_runs.{proofs.LastHop.last_hop_can_change}
use Rattle.pim_runs.proofs.streams.last_hop_can_change.Goals as goal

pub returns : goal.returns
returns c = last_hop_can_change
