use Rattle.law_converges.{proofs.WinnerHopRun.winner_is_rpf}
use Rattle.law_converges.proofs.runs.winner_is_rpf.Goals as goal

pub returns : goal.returns
returns c = winner_is_rpf
