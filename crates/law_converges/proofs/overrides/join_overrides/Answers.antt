use Rattle.law_converges.{proofs.LinkRptUpper.join_overrides}
use Rattle.law_converges.proofs.overrides.join_overrides.Goals as goal

pub returns : goal.returns
returns c = join_overrides
