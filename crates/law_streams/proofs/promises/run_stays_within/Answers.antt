use Rattle.law_streams.{proofs.Bounded.run_stays_within}
use Rattle.law_streams.proofs.promises.run_stays_within.Goals as goal

pub returns : goal.returns
returns c = run_stays_within
