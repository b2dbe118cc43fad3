use Rattle.pim_anycast.{proofs.Alive.known_stays}
use Rattle.pim_anycast.proofs.members.known_stays.Goals as goal

pub returns : goal.returns
returns c = known_stays
