use Rattle.law_converges.{proofs.AskedByMembersRun.line_is_asked}
use Rattle.law_converges.proofs.runs.line_is_asked.Goals as goal

pub returns : goal.returns
returns c = line_is_asked
