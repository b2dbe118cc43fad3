use Rattle.law_converges.{proofs.AskedByMembersRun.pair_is_asked}
use Rattle.law_converges.proofs.runs.pair_is_asked.Goals as goal

pub returns : goal.returns
returns c = pair_is_asked
