use Rattle.law_converges.{proofs.EachMemberRun.both_are_reached}
use Rattle.law_converges.proofs.runs.both_are_reached.Goals as goal

pub returns : goal.returns
returns c = both_are_reached
