use Rattle.law_converges.{proofs.LinkRptUpper.star_join_overrides}
use Rattle.law_converges.proofs.overrides.star_join_overrides.Goals as goal

pub returns : goal.returns
returns c = star_join_overrides
