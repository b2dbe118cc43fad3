use Rattle.pim_runs.{proofs.Plane.plane_goes_on}
use Rattle.pim_runs.proofs.split.plane_goes_on.Goals as goal

pub returns : goal.returns
returns c = plane_goes_on
