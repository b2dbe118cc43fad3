use Rattle.law_settled.{proofs.SettledStates.settled_is_lawful}
use Rattle.law_settled.proofs.settled.settled_is_lawful.Goals as goal

pub returns : goal.returns
returns c = settled_is_lawful
