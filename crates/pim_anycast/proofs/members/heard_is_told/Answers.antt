use Rattle.pim_anycast.{proofs.Telling.heard_is_told}
use Rattle.pim_anycast.proofs.members.heard_is_told.Goals as goal

pub returns : goal.returns
returns c = heard_is_told
