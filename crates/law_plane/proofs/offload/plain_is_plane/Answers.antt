use Rattle.law_plane.{proofs.Planes.plain_is_plane}
use Rattle.law_plane.proofs.offload.plain_is_plane.Goals as goal

pub returns : goal.returns
returns c = plain_is_plane
