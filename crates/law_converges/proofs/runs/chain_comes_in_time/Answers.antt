use Rattle.law_converges.{proofs.JoinedWaysRun.chain_comes_in_time}
use Rattle.law_converges.proofs.runs.chain_comes_in_time.Goals as goal

pub returns : goal.returns
returns c = chain_comes_in_time
