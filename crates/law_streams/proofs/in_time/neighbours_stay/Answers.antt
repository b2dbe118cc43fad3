use Rattle.law_streams.{proofs.Adjacent.neighbours_stay}
use Rattle.law_streams.proofs.in_time.neighbours_stay.Goals as goal

pub returns : goal.returns
returns c = neighbours_stay
