use Rattle.law_converges.{proofs.RoutesToRpRun.nearer_is_served_once}
use Rattle.law_converges.proofs.runs.nearer_is_served_once.Goals as goal

pub returns : goal.returns
returns c = nearer_is_served_once
