use Rattle.pim_anycast.{proofs.Alive.register_is_known}
use Rattle.pim_anycast.proofs.members.register_is_known.Goals as goal

pub returns : goal.returns
returns c = register_is_known
