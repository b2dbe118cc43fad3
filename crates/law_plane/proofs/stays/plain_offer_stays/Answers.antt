use Rattle.law_plane.{proofs.Staying.plain_offer_stays}
use Rattle.law_plane.proofs.stays.plain_offer_stays.Goals as goal

pub returns : goal.returns
returns c = plain_offer_stays
