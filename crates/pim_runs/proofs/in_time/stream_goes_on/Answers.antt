use Rattle.pim_runs.{proofs.InTime.stream_goes_on}
use Rattle.pim_runs.proofs.in_time.stream_goes_on.Goals as goal

pub returns : goal.returns
returns c = stream_goes_on
