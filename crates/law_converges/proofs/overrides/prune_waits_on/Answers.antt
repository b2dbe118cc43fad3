use Rattle.law_converges.{proofs.LinkRptWaits.prune_waits_on}
use Rattle.law_converges.proofs.overrides.prune_waits_on.Goals as goal

pub returns : goal.returns
returns c = prune_waits_on
