use Rattle.law_plane.{proofs.Staying.unnamed_source_stays}
use Rattle.law_plane.proofs.stays.unnamed_source_stays.Goals as goal

pub returns : goal.returns
returns c = unnamed_source_stays
