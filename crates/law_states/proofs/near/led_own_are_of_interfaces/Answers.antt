use Rattle.law_states.{proofs.OwnAddresses.led_own_are_of_interfaces}
use Rattle.law_states.proofs.near.led_own_are_of_interfaces.Goals as goal

pub returns : goal.returns
returns c = led_own_are_of_interfaces
