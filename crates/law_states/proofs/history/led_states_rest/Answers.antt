use Rattle.law_states.{proofs.Histories.led_states_rest}
use Rattle.law_states.proofs.history.led_states_rest.Goals as goal

pub returns : goal.returns
returns c = led_states_rest
