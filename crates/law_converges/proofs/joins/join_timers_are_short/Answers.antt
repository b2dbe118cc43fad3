use Rattle.law_converges.{proofs.JoinClock.join_timers_are_short}
use Rattle.law_converges.proofs.joins.join_timers_are_short.Goals as goal

pub returns : goal.returns
returns c = join_timers_are_short
