use Rattle.law_streams.{proofs.Climbs.join_climbs}
use Rattle.law_streams.proofs.served.join_climbs.Goals as goal

pub returns : goal.returns
returns c = join_climbs
