use Rattle.law_plane.{proofs.UnknownSources.unknown_is_stepped}
use Rattle.law_plane.proofs.unknown.unknown_is_stepped.Goals as goal

pub returns : goal.returns
returns c = unknown_is_stepped
