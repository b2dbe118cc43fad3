use Rattle.law_states.{proofs.Counts.counted_stay_within_the_greatest}
use Rattle.law_states.proofs.history.counted_stay_within_the_greatest.Goals as goal

pub returns : goal.returns
returns c = counted_stay_within_the_greatest
