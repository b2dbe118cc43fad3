use Rattle.law_streams.{proofs.FewJoins.all_stay_bounded}
use Rattle.law_streams.proofs.promises.all_stay_bounded.Goals as goal

pub returns : goal.returns
returns c = all_stay_bounded
