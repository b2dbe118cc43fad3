use Rattle.law_converges.{proofs.LinkRptLower.seen_prune_is_answered}
use Rattle.law_converges.proofs.overrides.seen_prune_is_answered.Goals as goal

pub returns : goal.returns
returns c = seen_prune_is_answered
