use Rattle.law_streams.{proofs.ServedRepeats.star_join_is_repeated}
use Rattle.law_streams.proofs.served.star_join_is_repeated.Goals as goal

pub returns : goal.returns
returns c = star_join_is_repeated
