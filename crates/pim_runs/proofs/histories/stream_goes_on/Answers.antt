use Rattle.pim_runs.{proofs.Placed.stream_goes_on}
use Rattle.pim_runs.proofs.histories.stream_goes_on.Goals as goal

pub returns : goal.returns
returns c = stream_goes_on
