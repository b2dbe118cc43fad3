use Rattle.law_converges.{proofs.Asserting.duplicate_is_answered}
use Rattle.law_converges.proofs.asserts.duplicate_is_answered.Goals as goal

pub returns : goal.returns
returns c = duplicate_is_answered
