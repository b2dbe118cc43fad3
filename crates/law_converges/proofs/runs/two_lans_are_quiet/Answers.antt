use Rattle.law_converges.{proofs.WinnerHopRun.two_lans_are_quiet}
use Rattle.law_converges.proofs.runs.two_lans_are_quiet.Goals as goal

pub returns : goal.returns
returns c = two_lans_are_quiet
