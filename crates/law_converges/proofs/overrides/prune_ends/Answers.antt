use Rattle.law_converges.{proofs.Unheard.prune_ends}
use Rattle.law_converges.proofs.overrides.prune_ends.Goals as goal

pub returns : goal.returns
returns c = prune_ends
