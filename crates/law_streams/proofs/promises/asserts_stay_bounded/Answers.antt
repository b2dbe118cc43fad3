use Rattle.law_streams.{proofs.Few.asserts_stay_bounded}
use Rattle.law_streams.proofs.promises.asserts_stay_bounded.Goals as goal

pub returns : goal.returns
returns c = asserts_stay_bounded
