use Rattle.law_streams.{proofs.SourceTreeClimbing.source_join_climbs_over}
use Rattle.law_streams.proofs.source_tree.source_join_climbs_over.Goals as goal

pub returns : goal.returns
returns c = source_join_climbs_over
