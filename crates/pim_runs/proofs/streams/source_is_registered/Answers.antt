use Rattle.pim_runs.{proofs.Registered.source_is_registered}
use Rattle.pim_runs.proofs.streams.source_is_registered.Goals as goal

pub returns : goal.returns
returns c = source_is_registered
