use Rattle.law_plane.{proofs.Staying.offer_stays}
use Rattle.law_plane.proofs.stays.offer_stays.Goals as goal

pub returns : goal.returns
returns c = offer_stays
