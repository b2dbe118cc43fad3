use Rattle.pim_runs.{proofs.OlderHost.older_host_is_held}
use Rattle.pim_runs.proofs.older_held.older_host_is_held.Goals as goal

pub returns : goal.returns
returns c = older_host_is_held
