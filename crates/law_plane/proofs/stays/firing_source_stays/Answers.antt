use Rattle.law_plane.{proofs.Staying.firing_source_stays}
use Rattle.law_plane.proofs.stays.firing_source_stays.Goals as goal

pub returns : goal.returns
returns c = firing_source_stays
