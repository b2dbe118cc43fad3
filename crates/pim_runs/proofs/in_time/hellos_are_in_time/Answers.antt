use Rattle.pim_runs.{proofs.HellosInTime.hellos_are_in_time}
use Rattle.pim_runs.proofs.in_time.hellos_are_in_time.Goals as goal

pub returns : goal.returns
returns c = hellos_are_in_time
