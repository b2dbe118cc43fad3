use Rattle.law_converges.{proofs.OneSender.at_most_one_comes_to_send}
use Rattle.law_converges.proofs.asserts.at_most_one_comes_to_send.Goals as goal

pub returns : goal.returns
returns c = at_most_one_comes_to_send
