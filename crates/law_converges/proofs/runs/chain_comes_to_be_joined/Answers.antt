use Rattle.law_converges.{proofs.JoinedWaysRun.chain_comes_to_be_joined}
use Rattle.law_converges.proofs.runs.chain_comes_to_be_joined.Goals as goal

pub returns : goal.returns
returns c = chain_comes_to_be_joined
