use Rattle.law_converges.{proofs.LinkMembersRun.host_answers_in_time}
use Rattle.law_converges.proofs.runs.host_answers_in_time.Goals as goal

pub returns : goal.returns
returns c = host_answers_in_time
