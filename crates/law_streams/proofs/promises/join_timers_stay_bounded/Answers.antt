use Rattle.law_streams.{proofs.FewJoins.join_timers_stay_bounded}
use Rattle.law_streams.proofs.promises.join_timers_stay_bounded.Goals as goal

pub returns : goal.returns
returns c = join_timers_stay_bounded
