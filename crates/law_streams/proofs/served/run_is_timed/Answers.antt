use Rattle.law_streams.{proofs.Timed.run_is_timed}
use Rattle.law_streams.proofs.served.run_is_timed.Goals as goal

pub returns : goal.returns
returns c = run_is_timed
