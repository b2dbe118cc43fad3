use Rattle.law_converges.{proofs.LinkRptUpper.prune_waits}
use Rattle.law_converges.proofs.overrides.prune_waits.Goals as goal

pub returns : goal.returns
returns c = prune_waits
