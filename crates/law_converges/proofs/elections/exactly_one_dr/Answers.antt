use Rattle.law_converges.{proofs.LinkDr.exactly_one_dr}
use Rattle.law_converges.proofs.elections.exactly_one_dr.Goals as goal

pub returns : goal.returns
returns c = exactly_one_dr
