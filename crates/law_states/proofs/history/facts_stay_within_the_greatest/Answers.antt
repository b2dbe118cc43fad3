use Rattle.law_states.{proofs.Limits.facts_stay_within_the_greatest}
use Rattle.law_states.proofs.history.facts_stay_within_the_greatest.Goals as goal

pub returns : goal.returns
returns c = facts_stay_within_the_greatest
