use Rattle.law_streams.{proofs.Timed.step_keeps_timed}
use Rattle.law_streams.proofs.served.step_keeps_timed.Goals as goal

pub returns : goal.returns
returns c = step_keeps_timed
