use Rattle.law_converges.{proofs.SourceActiveRun.active_is_not_sent_back}
use Rattle.law_converges.proofs.runs.active_is_not_sent_back.Goals as goal

pub returns : goal.returns
returns c = active_is_not_sent_back
