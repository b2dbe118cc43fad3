use Rattle.law_states.{proofs.NearStates.appended_leave_led}
use Rattle.law_states.proofs.near.appended_leave_led.Goals as goal

pub returns : goal.returns
returns c = appended_leave_led
