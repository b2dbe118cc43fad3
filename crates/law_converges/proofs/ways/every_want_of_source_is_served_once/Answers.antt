use Rattle.law_converges.{proofs.SourceWays.every_want_of_source_is_served_once}
use Rattle.law_converges.proofs.ways.every_want_of_source_is_served_once.Goals as goal

pub returns : goal.returns
returns c = every_want_of_source_is_served_once
