use Rattle.law_converges.{proofs.SourceMemberRun.source_is_reached}
use Rattle.law_converges.proofs.runs.source_is_reached.Goals as goal

pub returns : goal.returns
returns c = source_is_reached
