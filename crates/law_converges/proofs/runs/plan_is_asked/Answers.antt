use Rattle.law_converges.{proofs.AskedByMembersRun.plan_is_asked}
use Rattle.law_converges.proofs.runs.plan_is_asked.Goals as goal

pub returns : goal.returns
returns c = plan_is_asked
