use Rattle.law_converges.{proofs.SourceMemberRun.source_member_is_served}
use Rattle.law_converges.proofs.runs.source_member_is_served.Goals as goal

pub returns : goal.returns
returns c = source_member_is_served
