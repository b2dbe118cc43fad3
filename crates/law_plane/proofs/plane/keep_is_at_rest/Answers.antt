use Rattle.law_plane.{proofs.Keeps.keep_is_at_rest}
use Rattle.law_plane.proofs.plane.keep_is_at_rest.Goals as goal

pub returns : goal.returns
returns c = keep_is_at_rest
