use Rattle.law_converges.{proofs.LinkRptLower.override_leaves}
use Rattle.law_converges.proofs.overrides.override_leaves.Goals as goal

pub returns : goal.returns
returns c = override_leaves
