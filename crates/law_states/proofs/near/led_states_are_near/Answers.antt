use Rattle.law_states.{proofs.NearStates.led_states_are_near}
use Rattle.law_states.proofs.near.led_states_are_near.Goals as goal

pub returns : goal.returns
returns c = led_states_are_near
