use Rattle.pim_runs.{proofs.Answering.slow_answers_come_too_late}
use Rattle.pim_runs.proofs.members.slow_answers_come_too_late.Goals as goal

pub returns : goal.returns
returns c = slow_answers_come_too_late
