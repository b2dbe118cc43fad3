use Rattle.law_states.{proofs.PlacedAccepted.orders_are_accepted}
use Rattle.law_states.proofs.placed.orders_are_accepted.Goals as goal

pub returns : goal.returns
returns c = orders_are_accepted
