use Rattle.law_converges.{proofs.OneSenderIsLeft.one_sender_is_left}
use Rattle.law_converges.proofs.asserts.one_sender_is_left.Goals as goal

pub returns : goal.returns
returns c = one_sender_is_left
