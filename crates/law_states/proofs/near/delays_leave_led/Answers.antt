use Rattle.law_states.{proofs.NearStates.delays_leave_led}
use Rattle.law_states.proofs.near.delays_leave_led.Goals as goal

pub returns : goal.returns
returns c = delays_leave_led
