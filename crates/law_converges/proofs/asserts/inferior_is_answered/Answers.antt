use Rattle.law_converges.{proofs.Asserting.inferior_is_answered}
use Rattle.law_converges.proofs.asserts.inferior_is_answered.Goals as goal

pub returns : goal.returns
returns c = inferior_is_answered
