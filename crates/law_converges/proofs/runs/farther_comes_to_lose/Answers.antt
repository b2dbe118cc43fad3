use Rattle.law_converges.{proofs.LinkLosersRun.farther_comes_to_lose}
use Rattle.law_converges.proofs.runs.farther_comes_to_lose.Goals as goal

pub returns : goal.returns
returns c = farther_comes_to_lose
