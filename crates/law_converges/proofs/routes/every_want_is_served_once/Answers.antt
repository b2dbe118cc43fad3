use Rattle.law_converges.{proofs.RoutedWays.every_want_is_served_once}
use Rattle.law_converges.proofs.routes.every_want_is_served_once.Goals as goal

pub returns : goal.returns
returns c = every_want_is_served_once
