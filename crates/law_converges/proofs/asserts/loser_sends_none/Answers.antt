use Rattle.law_converges.{proofs.OneSender.loser_sends_none}
use Rattle.law_converges.proofs.asserts.loser_sends_none.Goals as goal

pub returns : goal.returns
returns c = loser_sends_none
