use Rattle.law_converges.{proofs.OneSenderIsLeft.other_comes_to_lose}
use Rattle.law_converges.proofs.asserts.other_comes_to_lose.Goals as goal

pub returns : goal.returns
returns c = other_comes_to_lose
