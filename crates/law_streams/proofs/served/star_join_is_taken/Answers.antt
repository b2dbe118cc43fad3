use Rattle.law_streams.{proofs.Taken.star_join_is_taken}
use Rattle.law_streams.proofs.served.star_join_is_taken.Goals as goal

pub returns : goal.returns
returns c = star_join_is_taken
