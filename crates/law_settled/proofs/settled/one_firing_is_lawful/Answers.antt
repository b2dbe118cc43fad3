use Rattle.law_settled.{proofs.LawfulFiring.one_firing_is_lawful}
use Rattle.law_settled.proofs.settled.one_firing_is_lawful.Goals as goal

pub returns : goal.returns
returns c = one_firing_is_lawful
