use Rattle.law_streams.{proofs.Bounded.step_stays_within}
use Rattle.law_streams.proofs.promises.step_stays_within.Goals as goal

pub returns : goal.returns
returns c = step_stays_within
