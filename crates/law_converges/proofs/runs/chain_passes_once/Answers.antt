use Rattle.law_converges.{proofs.JoinedWaysRun.chain_passes_once}
use Rattle.law_converges.proofs.runs.chain_passes_once.Goals as goal

pub returns : goal.returns
returns c = chain_passes_once
