use Rattle.law_converges.{proofs.LinkRptWaits.unpruned_stays}
use Rattle.law_converges.proofs.overrides.unpruned_stays.Goals as goal

pub returns : goal.returns
returns c = unpruned_stays
