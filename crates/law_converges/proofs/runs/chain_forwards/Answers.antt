use Rattle.law_converges.{proofs.ComesOnceRun.chain_forwards}
use Rattle.law_converges.proofs.runs.chain_forwards.Goals as goal

pub returns : goal.returns
returns c = chain_forwards
