use Rattle.law_converges.{proofs.SourceActiveRun.other_actives_are_ignored}
use Rattle.law_converges.proofs.runs.other_actives_are_ignored.Goals as goal

pub returns : goal.returns
returns c = other_actives_are_ignored
