use Rattle.law_states.{proofs.Addresses.addresses_go_along}
use Rattle.law_states.proofs.placed.addresses_go_along.Goals as goal

pub returns : goal.returns
returns c = addresses_go_along
