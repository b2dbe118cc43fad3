use Rattle.law_streams.{proofs.Few.counted_stay_bounded}
use Rattle.law_streams.proofs.promises.counted_stay_bounded.Goals as goal

pub returns : goal.returns
returns c = counted_stay_bounded
