use Rattle.pim_bsr.{proofs.Same.same_everywhere}
use Rattle.pim_bsr.proofs.laws.same_everywhere.Goals as goal

pub returns : goal.returns
returns c = same_everywhere
