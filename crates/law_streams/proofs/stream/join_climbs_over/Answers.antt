use Rattle.law_streams.{proofs.Climbing.join_climbs_over}
use Rattle.law_streams.proofs.stream.join_climbs_over.Goals as goal

pub returns : goal.returns
returns c = join_climbs_over
