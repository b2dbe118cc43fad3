use Rattle.law_converges.{proofs.AssertingRun.nearer_asserts}
use Rattle.law_converges.proofs.runs.nearer_asserts.Goals as goal

pub returns : goal.returns
returns c = nearer_asserts
