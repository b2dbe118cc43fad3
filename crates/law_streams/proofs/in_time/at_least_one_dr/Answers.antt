use Rattle.law_streams.{proofs.OneDr.at_least_one_dr}
use Rattle.law_streams.proofs.in_time.at_least_one_dr.Goals as goal

pub returns : goal.returns
returns c = at_least_one_dr
