use Rattle.law_converges.{proofs.RoutesToRpRun.farther_is_held_to_rp}
use Rattle.law_converges.proofs.runs.farther_is_held_to_rp.Goals as goal

pub returns : goal.returns
returns c = farther_is_held_to_rp
