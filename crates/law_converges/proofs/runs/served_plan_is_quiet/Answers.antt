use Rattle.law_converges.{proofs.MemberLinksRun.served_plan_is_quiet}
use Rattle.law_converges.proofs.runs.served_plan_is_quiet.Goals as goal

pub returns : goal.returns
returns c = served_plan_is_quiet
