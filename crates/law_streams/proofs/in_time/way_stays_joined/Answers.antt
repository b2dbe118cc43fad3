use Rattle.law_streams.{proofs.Pairs.way_stays_joined}
use Rattle.law_streams.proofs.in_time.way_stays_joined.Goals as goal

pub returns : goal.returns
returns c = way_stays_joined
