use Rattle.law_converges.{proofs.OneSenderIsLeft.one_of_all_is_left}
use Rattle.law_converges.proofs.asserts.one_of_all_is_left.Goals as goal

pub returns : goal.returns
returns c = one_of_all_is_left
