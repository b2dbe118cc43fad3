use Rattle.law_converges.{proofs.TwoWinnersRun.both_win_at_first}
use Rattle.law_converges.proofs.runs.both_win_at_first.Goals as goal

pub returns : goal.returns
returns c = both_win_at_first
