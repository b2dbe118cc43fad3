use Rattle.pim_runs.{proofs.BehindPlane.host_behind_plane}
use Rattle.pim_runs.proofs.older_held.host_behind_plane.Goals as goal

pub returns : goal.returns
returns c = host_behind_plane
