use Rattle.pim_runs.{proofs.Answering.patient_queries_come_too_late}
use Rattle.pim_runs.proofs.members.patient_queries_come_too_late.Goals as goal

pub returns : goal.returns
returns c = patient_queries_come_too_late
