use Rattle.law_converges.{proofs.OneSender.at_most_one_sends}
use Rattle.law_converges.proofs.asserts.at_most_one_sends.Goals as goal

pub returns : goal.returns
returns c = at_most_one_sends
