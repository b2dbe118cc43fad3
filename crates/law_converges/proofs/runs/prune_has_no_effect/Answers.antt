use Rattle.law_converges.{proofs.CarriedNetworkRun.prune_has_no_effect}
use Rattle.law_converges.proofs.runs.prune_has_no_effect.Goals as goal

pub returns : goal.returns
returns c = prune_has_no_effect
