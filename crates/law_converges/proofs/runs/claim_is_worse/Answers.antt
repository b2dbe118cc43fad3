use Rattle.law_converges.{proofs.AssertingRun.claim_is_worse}
use Rattle.law_converges.proofs.runs.claim_is_worse.Goals as goal

pub returns : goal.returns
returns c = claim_is_worse
