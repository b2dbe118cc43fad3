use Rattle.law_converges.{proofs.NextHopRun.router_turns}
use Rattle.law_converges.proofs.runs.router_turns.Goals as goal

pub returns : goal.returns
returns c = router_turns
