use Rattle.pim_runs.{proofs.OnLink.join_is_suppressed}
use Rattle.pim_runs.proofs.in_time.join_is_suppressed.Goals as goal

pub returns : goal.returns
returns c = join_is_suppressed
