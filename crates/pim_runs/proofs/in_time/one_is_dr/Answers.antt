use Rattle.pim_runs.{proofs.HellosInTime.one_is_dr}
use Rattle.pim_runs.proofs.in_time.one_is_dr.Goals as goal

pub returns : goal.returns
returns c = one_is_dr
