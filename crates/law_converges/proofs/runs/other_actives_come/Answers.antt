use Rattle.law_converges.{proofs.SourceActiveRun.other_actives_come}
use Rattle.law_converges.proofs.runs.other_actives_come.Goals as goal

pub returns : goal.returns
returns c = other_actives_come
