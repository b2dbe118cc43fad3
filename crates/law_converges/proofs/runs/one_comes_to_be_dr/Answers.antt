use Rattle.law_converges.{proofs.LinkDrRun.one_comes_to_be_dr}
use Rattle.law_converges.proofs.runs.one_comes_to_be_dr.Goals as goal

pub returns : goal.returns
returns c = one_comes_to_be_dr
