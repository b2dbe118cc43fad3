use Rattle.law_converges.{proofs.LinkJoinsRun.both_join_in_time}
use Rattle.law_converges.proofs.runs.both_join_in_time.Goals as goal

pub returns : goal.returns
returns c = both_join_in_time
