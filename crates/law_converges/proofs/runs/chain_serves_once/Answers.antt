use Rattle.law_converges.{proofs.ComesOnceRun.chain_serves_once}
use Rattle.law_converges.proofs.runs.chain_serves_once.Goals as goal

pub returns : goal.returns
returns c = chain_serves_once
