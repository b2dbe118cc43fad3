use Rattle.law_settled.{proofs.LawfulFiring.settling_is_lawful}
use Rattle.law_settled.proofs.settled.settling_is_lawful.Goals as goal

pub returns : goal.returns
returns c = settling_is_lawful
