use Rattle.pim_runs.{proofs.Answering.member_answers}
use Rattle.pim_runs.proofs.members.member_answers.Goals as goal

pub returns : goal.returns
returns c = member_answers
