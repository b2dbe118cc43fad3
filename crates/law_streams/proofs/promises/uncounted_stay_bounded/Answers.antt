use Rattle.law_streams.{proofs.Shorter.uncounted_stay_bounded}
use Rattle.law_streams.proofs.promises.uncounted_stay_bounded.Goals as goal

pub returns : goal.returns
returns c = uncounted_stay_bounded
