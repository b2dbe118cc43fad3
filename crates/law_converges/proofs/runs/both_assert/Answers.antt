use Rattle.law_converges.{proofs.OneSenderIsLeftRun.both_assert}
use Rattle.law_converges.proofs.runs.both_assert.Goals as goal

pub returns : goal.returns
returns c = both_assert
