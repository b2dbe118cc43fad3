use Rattle.law_streams.{proofs.Passing.run_keeps_passing}
use Rattle.law_streams.proofs.stream.run_keeps_passing.Goals as goal

pub returns : goal.returns
returns c = run_keeps_passing
