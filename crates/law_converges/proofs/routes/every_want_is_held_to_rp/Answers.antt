use Rattle.law_converges.{proofs.RoutesToRp.every_want_is_held_to_rp}
use Rattle.law_converges.proofs.routes.every_want_is_held_to_rp.Goals as goal

pub returns : goal.returns
returns c = every_want_is_held_to_rp
