use Rattle.law_states.{proofs.Histories.read_state_is_led_to}
use Rattle.law_states.proofs.history.read_state_is_led_to.Goals as goal

pub returns : goal.returns
returns c = read_state_is_led_to
