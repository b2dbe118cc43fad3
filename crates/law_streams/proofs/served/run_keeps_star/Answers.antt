use Rattle.law_streams.{proofs.Keeps.run_keeps_star}
use Rattle.law_streams.proofs.served.run_keeps_star.Goals as goal

pub returns : goal.returns
returns c = run_keeps_star
