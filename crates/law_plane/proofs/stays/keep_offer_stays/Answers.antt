use Rattle.law_plane.{proofs.Staying.keep_offer_stays}
use Rattle.law_plane.proofs.stays.keep_offer_stays.Goals as goal

pub returns : goal.returns
returns c = keep_offer_stays
