use Rattle.law_converges.{proofs.WinnerHopRun.first_yields}
use Rattle.law_converges.proofs.runs.first_yields.Goals as goal

pub returns : goal.returns
returns c = first_yields
