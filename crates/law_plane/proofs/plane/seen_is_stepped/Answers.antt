use Rattle.law_plane.{proofs.SeenPackets.seen_is_stepped}
use Rattle.law_plane.proofs.plane.seen_is_stepped.Goals as goal

pub returns : goal.returns
returns c = seen_is_stepped
