use Rattle.law_settled.{proofs.LawfulFiring.instant_is_lawful}
use Rattle.law_settled.proofs.settled.instant_is_lawful.Goals as goal

pub returns : goal.returns
returns c = instant_is_lawful
