use Rattle.law_settled.{proofs.LawfulFiring.firing_is_lawful}
use Rattle.law_settled.proofs.settled.firing_is_lawful.Goals as goal

pub returns : goal.returns
returns c = firing_is_lawful
