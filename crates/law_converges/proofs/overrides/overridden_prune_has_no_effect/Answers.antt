use Rattle.law_converges.{proofs.LinkRptOrder.overridden_prune_has_no_effect}
use Rattle.law_converges.proofs.overrides.overridden_prune_has_no_effect.Goals as goal

pub returns : goal.returns
returns c = overridden_prune_has_no_effect
