use Rattle.law_converges.{proofs.AskedOnLans.carried_joins_are_sent}
use Rattle.law_converges.proofs.served.carried_joins_are_sent.Goals as goal

pub returns : goal.returns
returns c = carried_joins_are_sent
