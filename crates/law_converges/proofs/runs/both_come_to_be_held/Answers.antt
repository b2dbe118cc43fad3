use Rattle.law_converges.{proofs.LinkJoinsRun.both_come_to_be_held}
use Rattle.law_converges.proofs.runs.both_come_to_be_held.Goals as goal

pub returns : goal.returns
returns c = both_come_to_be_held
